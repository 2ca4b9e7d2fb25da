-- One message and then another.
use Rattle.std.proofs.Common.{◌≡◌, Bool, ℕ, ◌++◌, List, [], ◌∷◌, Option, refl, sym, ap, ◌∙◌, subst, append_assoc, append-nil}
use Rattle.std.specs.Prelude.{◌||◌}
use Rattle.std.proofs.lemmas.Grind.{flat_map-append}
use Rattle.jn_outside.specs.Files.{Holding}
use Rattle.jn_front.specs.declared.source.SourceFile.{SourceFile}
use Rattle.jn_lsp_frames.specs.declared.frame.Frame.{Frame}
use Rattle.jn_lsp_text.specs.declared.message.Message.{Message}
use Rattle.jn_lsp_text.specs.declared.reply.Reply.{Reply}
use Rattle.jn_lsp.specs.declared.event.Event.TheVariants.{Folder, Message as MessageEvent}
use Rattle.jn_lsp.specs.Serving.{ServerOf, Takes}
use Rattle.nullcheck_lsp_top.specs.declared.client.Client.{Client}
use Rattle.nullcheck_lsp_top.specs.declared.client.Root.{Root}
use Rattle.nullcheck_lsp_top.specs.declared.messages.Task.{Task}
use Rattle.nullcheck_lsp_top.specs.Announcing.{ends}
use Rattle.nullcheck_lsp_top.specs.Hearing.{Hears, HearsAll, IsMessageOf, IsTask, Looks, LooksWhere, begun, framed, noticed, written}
use Rattle.nullcheck_lsp_top.specs.Looking.{IsFound, Outside, Traces, root_or}
use Rattle.nullcheck_lsp_top.specs.Reading.{shows}

pub framed_both : (address : Option (List ℕ)) (xs ys : List Reply) → framed address (xs ++ ys) ≡ framed address xs ++ framed address ys
framed_both address xs ys = flat_map-append (written address) xs ys

-- files were read, and the server was told of them
pub looks_from : (held : Option Holding) (old new : Outside) (before after : Client) (files : List SourceFile) (warnings : List (List ℕ)) (told news replies : List Reply) → IsFound held before.root old new files warnings → told ≡ shows before.shown warnings → Takes before.server (Folder files) news after.server → after.root ≡ before.root → after.said ≡ before.said → after.progress ≡ before.progress → after.shown ≡ warnings → replies ≡ told ++ news → Looks held old new before after replies
looks_from held old new before after files warnings told news replies found says_ takes root said progress shown all = record {
  files = files;
  news = news;
  found = subst (λ (ws : List (List ℕ)). IsFound held before.root old new files ws) (sym shown) found;
  takes = takes;
  root = root;
  said = said;
  progress = progress;
  all = all ∙ ap (λ (rs : List Reply). rs ++ news) (says_ ∙ ap (λ (ws : List (List ℕ)). shows before.shown ws) (sym shown));
}

-- a message was taken, as far as it is about the workspace
module _ (held : Option Holding) (old out new : Outside) (told : Option Root) (before start mid after : Client) (message : Message) (task : Task) (first more replies : List Reply) where
  pub hears_from : IsTask before message task → Traces task.told told old out → start.server ≡ before.server → start.root ≡ root_or told before.root → start.shown ≡ before.shown → start.said ≡ (before.said || task.foreign) → start.progress ≡ task.progress → Takes start.server (MessageEvent task.message) first mid.server → mid.root ≡ start.root → mid.shown ≡ start.shown → mid.said ≡ start.said → mid.progress ≡ start.progress → LooksWhere task.looks held out new mid after more → replies ≡ task.notices.items ++ ((first ++ more) ++ ends task.announced before.progress.next) → Hears held old new before message (begun before message ++ replies) after
  hears_from is traces server root shown said progress takes same_root same_shown same_said same_progress behind all = record {
    first = first;
    more = more;
    told = told;
    out = out;
    traces = subst (λ (r : Option Root). Traces r told old out) is.told traces;
    mid = mid;
    takes = subst (λ (m : Message). Takes before.server (MessageEvent m) first mid.server) is.taken (subst (λ (s : ServerOf). Takes s (MessageEvent task.message) first mid.server) server takes);
    root = same_root ∙ root;
    shown = same_shown ∙ shown;
    said = same_said ∙ said ∙ ap (λ b. before.said || b) is.foreign;
    progress = same_progress ∙ progress ∙ is.progress;
    behind = subst (λ (b : Bool). LooksWhere b held out new mid after more) is.looks behind;
    all = ap (λ (rs : List Reply). begun before message ++ rs) (all ∙ ap (λ (rs : List Reply). rs ++ ((first ++ more) ++ ends task.announced before.progress.next)) is.notices ∙ ap (λ (b : Bool). noticed before message ++ ((first ++ more) ++ ends b before.progress.next)) is.announced);
  }

-- a frame more
pub hears_more : (held : Option Holding) (old mid new : Outside) (before client after : Client) (frames : List Frame) (frame : Frame) (message : Message) (replies more : List Reply) → HearsAll held old mid before frames replies client → IsMessageOf frame message → Hears held mid new client message more after → HearsAll held old new before (frames ++ frame ∷ []) (replies ++ more) after
hears_more held old mid new before client after [] frame message replies more (same, none, is) reads hears = (
  new,
  after,
  message,
  more,
  [],
  reads,
  subst (λ (o : Outside). Hears held o new before message more after) same (subst (λ (c : Client). Hears held mid new c message more after) is hears),
  ap (λ (rs : List Reply). rs ++ more) none ∙ sym (append-nil more),
  (refl, refl, refl),
)
hears_more held old mid new before client after (other ∷ frames) frame message replies more (m, c, asked, first, rest, reads_other, hears_other, all, others) reads hears = (
  m,
  c,
  asked,
  first,
  rest ++ more,
  reads_other,
  hears_other,
  ap (λ (rs : List Reply). rs ++ more) all ∙ append_assoc first rest more,
  hears_more held m mid new c client after frames frame message rest more others reads hears,
)
