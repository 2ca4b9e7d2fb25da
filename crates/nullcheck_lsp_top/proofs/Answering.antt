-- Each request that frames bring is answered once.
use Rattle.std.proofs.Common.{◌≡◌, ℕ, ℤ, ◌++◌, Bool, true, false, List, [], ◌∷◌, map, Option, Some, None, refl, sym, ap, ◌∙◌, subst, append_assoc}
use Rattle.std.specs.Prelude.{filter, not, option_map, option_to_list, if◌then◌else◌}
use Rattle.std.specs.List.{AllZip}
use Rattle.std.proofs.lemmas.Grind.{flat_map-append}
use Rattle.jn_base.specs.declared.infer.Infer.{Infer}
use Rattle.jn_outside.specs.Files.{Holding}
use Rattle.jn_front.specs.declared.source.SourceFile.{SourceFile}
use Rattle.jn_lsp_frames.specs.declared.frame.Frame.{Frame}
use Rattle.jn_lsp_text.specs.declared.message.Change.{Change}
use Rattle.jn_lsp_text.specs.declared.message.Message.{Message}
use Rattle.jn_lsp_text.specs.declared.message.Message.TheVariants.{Initialize, Initialized, DidOpen, DidChange, DidSave, DidClose, WatchedFiles, ChangedFolders, CodeAction, InlayHint, Hover, Shutdown, Exit, Ignored, Unknown, BadDocument, BadParams, NoMessage, NoJson, BadHeader, TooLarge}
use Rattle.jn_lsp_text.specs.declared.reply.Reply.{Reply}
use Rattle.jn_lsp_text.specs.declared.reply.Reply.TheVariants.{Show}
use Rattle.jn_lsp.specs.declared.event.Event.{Event}
use Rattle.jn_lsp.specs.declared.event.Event.TheVariants.{Folder, Message as MessageEvent}
use Rattle.jn_lsp.specs.Requests.{AreAnswered, id_answered, id_asked, ids_answered, ids_asked, is_exit}
use Rattle.jn_lsp.specs.Serving.{ServerOf, Serves, Takes, new_server}
use Rattle.nullcheck_lsp_top.specs.declared.client.Client.{Client}
use Rattle.nullcheck_lsp_top.specs.Announcing.{begins, ends}
use Rattle.nullcheck_lsp_top.specs.Hearing.{AnsweredOnce, Hears, HearsAll, IsMessageOf, Looks, LooksWhere, announced, begun, documents_of, ended, foreign, looks, noticed, taken_as}
use Rattle.nullcheck_lsp_top.specs.Looking.{Outside, new_client}
use Rattle.nullcheck_lsp_top.specs.declared.client.Root.{Root}
use Rattle.nullcheck_lsp_top.specs.Placing.{asks, is_asked, or_ignored, placed, placed_name, says}
use Rattle.nullcheck_lsp_top.specs.Reading.{is_among, shows}

-- what is shown answers nothing
shown_none : (words : List (List ℕ)) → ids_answered (map Show words) ≡ []
shown_none [] = refl
shown_none (w ∷ words) = shown_none words

both_answered : (xs ys : List Reply) → ids_answered (xs ++ ys) ≡ ids_answered xs ++ ids_answered ys
both_answered xs ys = flat_map-append (λ reply. option_to_list (id_answered reply)) xs ys

-- replies answer the same after the same
same_behind : (xs ys zs : List Reply) → ids_answered ys ≡ ids_answered zs → ids_answered (xs ++ ys) ≡ ids_answered (xs ++ zs)
same_behind xs ys zs e = both_answered xs ys ∙ ap (λ ids. ids_answered xs ++ ids) e ∙ sym (both_answered xs zs)

-- files that are read ask nothing
asked_more : (message : Message) (es fs : List Event) → ids_asked es ≡ ids_asked fs → ids_asked (MessageEvent message ∷ es) ≡ ids_asked (MessageEvent message ∷ fs)
asked_more message es fs e = ap (λ ids. if is_exit (MessageEvent message) then [] else option_to_list (id_asked message) ++ ids) e

-- a message that asks the same
asked_same : (one other : Message) (es : List Event) → is_exit (MessageEvent one) ≡ is_exit (MessageEvent other) → id_asked one ≡ id_asked other → ids_asked (MessageEvent one ∷ es) ≡ ids_asked (MessageEvent other ∷ es)
asked_same one other es e f =
    ap (λ b. if b then [] else option_to_list (id_asked one) ++ ids_asked es) e
    ∙ ap (λ i. if is_exit (MessageEvent other) then [] else option_to_list i ++ ids_asked es) f

-- a message as the server takes it asks what it asked
abbrev AsksAs : Message → Message → Type 0
AsksAs one other = (is_exit (MessageEvent one) ≡ is_exit (MessageEvent other)) × (id_asked one ≡ id_asked other)

opened_as : (place : Option (List ℕ)) (name : List ℕ) (version : Option ℤ) (text : List ℕ) → AsksAs (or_ignored (option_map (λ n. DidOpen n version text) place)) (DidOpen name version text)
opened_as None name version text = (refl, refl)
opened_as (Some place) name version text = (refl, refl)

changed_as : (place : Option (List ℕ)) (name : List ℕ) (version : Option ℤ) (changes : List Change) → AsksAs (or_ignored (option_map (λ n. DidChange n version changes) place)) (DidChange name version changes)
changed_as None name version changes = (refl, refl)
changed_as (Some place) name version changes = (refl, refl)

closed_as : (place : Option (List ℕ)) (name : List ℕ) → AsksAs (or_ignored (option_map DidClose place)) (DidClose name)
closed_as None name = (refl, refl)
closed_as (Some place) name = (refl, refl)

doubted_as : (place : Option (List ℕ)) (name : List ℕ) → AsksAs (or_ignored (option_map BadDocument place)) (BadDocument name)
doubted_as None name = (refl, refl)
doubted_as (Some place) name = (refl, refl)

placed_asks : (root : Root) (documents : List SourceFile) (message : Message) → AsksAs (placed root documents message) message
placed_asks root documents (Initialize id folders infer files exclude markup encoding progress) = (refl, refl)
placed_asks root documents Initialized = (refl, refl)
placed_asks root documents (DidOpen name version text) = opened_as (placed_name root documents name) name version text
placed_asks root documents (DidChange name version changes) = changed_as (placed_name root documents name) name version changes
placed_asks root documents (DidSave name) = (refl, refl)
placed_asks root documents (DidClose name) = closed_as (placed_name root documents name) name
placed_asks root documents WatchedFiles = (refl, refl)
placed_asks root documents (ChangedFolders added removed) = (refl, refl)
placed_asks root documents (CodeAction id name range) = (refl, refl)
placed_asks root documents (InlayHint id name range) = (refl, refl)
placed_asks root documents (Hover id name position) = (refl, refl)
placed_asks root documents (Shutdown id) = (refl, refl)
placed_asks root documents Exit = (refl, refl)
placed_asks root documents Ignored = (refl, refl)
placed_asks root documents (Unknown id) = (refl, refl)
placed_asks root documents (BadDocument name) = doubted_as (placed_name root documents name) name
placed_asks root documents (BadParams id) = (refl, refl)
placed_asks root documents NoMessage = (refl, refl)
placed_asks root documents NoJson = (refl, refl)
placed_asks root documents BadHeader = (refl, refl)
placed_asks root documents TooLarge = (refl, refl)

-- events that a server took, which ask the same as these messages, and replies that answer the same as these
record Served (before after : ServerOf) (messages : List Message) (replies : List Reply) : Type 0 where
  pub events : List Event
  pub said : List Reply
  pub serves : Serves before events said after
  pub asked : ids_asked events ≡ ids_asked (map MessageEvent messages)
  pub answered : ids_answered replies ≡ ids_answered said

served_none : (before after : ServerOf) (replies : List Reply) → replies ≡ [] → after ≡ before → Served before after [] replies
served_none before after replies none is = record { events = []; said = []; serves = (refl, is); asked = refl; answered = ap ids_answered none }

module _ (held : Option Holding) (before last : ServerOf) (mid after : Client) (taken message : Message) (asks : AsksAs taken message) (messages : List Message) (first more rest : List Reply) (takes : Takes before (MessageEvent taken) first mid.server) (others : Served after.server last messages rest) where
  -- without files
  plain : after ≡ mid → more ≡ [] → Served before last (message ∷ messages) ((first ++ more) ++ rest)
  plain is none = record {
    events = MessageEvent taken ∷ others.events;
    said = first ++ others.said;
    serves = (first, others.said, mid.server, refl, takes, subst (λ (c : Client). Serves c.server others.events others.said last) is others.serves);
    asked = asked_more taken others.events (map MessageEvent messages) others.asked ∙ asked_same taken message (map MessageEvent messages) asks.0 asks.1;
    answered = ap (λ (rs : List Reply). ids_answered rs) (append_assoc first more rest ∙ ap (λ (rs : List Reply). first ++ (rs ++ rest)) none) ∙ same_behind first rest others.said others.answered;
  }

  -- with files that were read
  looked : (old new : Outside) → Looks held old new mid after more → Served before last (message ∷ messages) ((first ++ more) ++ rest)
  looked old new l = record {
    events = MessageEvent taken ∷ Folder l.files ∷ others.events;
    said = first ++ (l.news ++ others.said);
    serves = (first, l.news ++ others.said, mid.server, refl, takes, (l.news, others.said, after.server, refl, l.takes, others.serves));
    asked = asked_more taken (Folder l.files ∷ others.events) (map MessageEvent messages) others.asked ∙ asked_same taken message (map MessageEvent messages) asks.0 asks.1;
    answered = ap (λ (rs : List Reply). ids_answered rs) (append_assoc first more rest) ∙ same_behind first (more ++ rest) (l.news ++ others.said) (answered_more l);
  }
    where
      words : List (List ℕ)
      words = filter (λ w. not (is_among mid.shown w)) after.shown

      answered_more : Looks held old new mid after more → ids_answered (more ++ rest) ≡ ids_answered (l.news ++ others.said)
      answered_more m =
          ap (λ (rs : List Reply). ids_answered (rs ++ rest)) l.all
          ∙ ap (λ (rs : List Reply). ids_answered rs) (append_assoc (shows mid.shown after.shown) l.news rest)
          ∙ both_answered (shows mid.shown after.shown) (l.news ++ rest)
          ∙ ap (λ ids. ids ++ ids_answered (l.news ++ rest)) (shown_none words)
          ∙ same_behind l.news rest others.said others.answered

  by_files : (b : Bool) (old new : Outside) → LooksWhere b held old new mid after more → Served before last (message ∷ messages) ((first ++ more) ++ rest)
  by_files false old new (same, is, none) = plain is none
  by_files true old new l = looked old new l

-- what is sent before an answer answers nothing
asks_unasked : (asked : Bool) → ids_answered (asks asked) ≡ []
asks_unasked false = refl
asks_unasked true = refl

says_unasked : (said : Bool) (foreign_ : Option (List ℕ)) → ids_answered (says said foreign_) ≡ []
says_unasked said None = refl
says_unasked true (Some name) = refl
says_unasked false (Some name) = refl

both_unasked : (asked said : Bool) (foreign_ : Option (List ℕ)) → ids_answered (asks asked ++ says said foreign_) ≡ []
both_unasked asked said foreign_ = both_answered (asks asked) (says said foreign_) ∙ ap (λ ids. ids ++ ids_answered (says said foreign_)) (asks_unasked asked) ∙ says_unasked said foreign_

begins_unasked : (announced_ : Bool) (number : ℕ) → ids_answered (begins announced_ number) ≡ []
begins_unasked false number = refl
begins_unasked true number = refl

ends_unasked : (announced_ : Bool) (number : ℕ) → ids_answered (ends announced_ number) ≡ []
ends_unasked false number = refl
ends_unasked true number = refl

served_behind : (before last : ServerOf) (messages : List Message) (sent replies : List Reply) → ids_answered sent ≡ [] → Served before last messages replies → Served before last messages (sent ++ replies)
served_behind before last messages sent replies unasked s = record {
  events = s.events;
  said = s.said;
  serves = s.serves;
  asked = s.asked;
  answered = both_answered sent replies ∙ ap (λ ids. ids ++ ids_answered replies) unasked ∙ s.answered;
}

regrouped : (begun_ sent one ended_ rest : List Reply) → (begun_ ++ (sent ++ (one ++ ended_))) ++ rest ≡ begun_ ++ (sent ++ (one ++ (ended_ ++ rest)))
regrouped begun_ sent one ended_ rest =
    append_assoc begun_ (sent ++ (one ++ ended_)) rest
    ∙ ap (λ (rs : List Reply). begun_ ++ rs) (append_assoc sent (one ++ ended_) rest ∙ ap (λ (rs : List Reply). sent ++ rs) (append_assoc one ended_ rest))

-- the messages that frames were
record Heard (held : Option Holding) (before after : Client) (frames : List Frame) (replies : List Reply) : Type 0 where
  pub messages : List Message
  pub are : AllZip IsMessageOf frames messages
  pub served : Served before.server after.server messages replies

heard_frame : (held : Option Holding) (old new : Outside) (before client after : Client) (frame : Frame) (frames : List Frame) (message : Message) (replies first rest : List Reply) → IsMessageOf frame message → Hears held old new before message first client → replies ≡ first ++ rest → Heard held client after frames rest → Heard held before after (frame ∷ frames) replies
heard_frame held old new before client after frame frames message replies first rest is h all others = record {
  messages = message ∷ others.messages;
  are = (is, others.are);
  served = subst (λ (rs : List Reply). Served before.server after.server (message ∷ others.messages) rs) (sym (all ∙ ap (λ (rs : List Reply). rs ++ rest) h.all ∙ regrouped (begun before message) (noticed before message) (h.first ++ h.more) (ended before message) rest))
      (served_behind before.server after.server (message ∷ others.messages) (begun before message) (noticed before message ++ ((h.first ++ h.more) ++ (ended before message ++ rest))) (begins_unasked (announced before message) before.progress.next)
      (served_behind before.server after.server (message ∷ others.messages) (noticed before message) ((h.first ++ h.more) ++ (ended before message ++ rest)) (both_unasked (is_asked before.server.phase before.root message) before.said (foreign before message))
      (by_files held before.server after.server h.mid client (taken_as before message) message (placed_asks before.root (documents_of before) message) others.messages h.first h.more (ended before message ++ rest) h.takes
      (served_behind client.server after.server others.messages (ended before message) rest (ends_unasked (announced before message) before.progress.next) others.served)
      (looks before.server.phase (taken_as before message)) h.out new h.behind)));
}

heard_all : (held : Option Holding) (old new : Outside) (before after : Client) (frames : List Frame) (replies : List Reply) → HearsAll held old new before frames replies after → Heard held before after frames replies
heard_all held old new before after [] replies (same, none, is) = record { messages = []; are = tt; served = served_none before.server after.server replies none (ap (λ (c : Client). c.server) is) }
heard_all held old new before after (frame ∷ frames) replies (mid, client, message, first, rest, is, hears, all, others) =
    heard_frame held old mid before client after frame frames message replies first rest is hears all (heard_all held mid new client after frames rest others)

pub answered_once : ((infer : Infer) (events : List Event) (replies : List Reply) (after : ServerOf) → Serves (new_server infer) events replies after → AreAnswered events replies) → (infer : Infer) (held : Option Holding) (old new : Outside) (client : Client) (frames : List Frame) (replies : List Reply) → HearsAll held old new (new_client infer) frames replies client → AnsweredOnce frames replies
answered_once law infer held old new client frames replies h =
    let all = heard_all held old new (new_client infer) client frames replies h in
    (all.messages, all.are, all.served.answered ∙ law infer all.served.events all.served.said client.server all.served.serves ∙ all.served.asked)
