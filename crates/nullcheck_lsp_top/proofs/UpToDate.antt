-- What was published last is the report of the files as they stand.
use Rattle.std.proofs.Common.{◌≡◌, ℕ, ◌++◌, Bool, true, false, List, [], ◌∷◌, map, Option, Some, None, refl, sym, ap, ◌∙◌, subst, append_assoc, append-nil}
use Rattle.std.specs.Prelude.{filter, not}
use Rattle.jn_base.specs.declared.infer.Infer.{Infer}
use Rattle.jn_outside.specs.Files.{Holding}
use Rattle.jn_lsp_frames.specs.declared.frame.Frame.{Frame}
use Rattle.jn_lsp_text.specs.declared.message.Message.{Message}
use Rattle.jn_lsp_text.specs.declared.reply.Diagnostic.{Diagnostic}
use Rattle.jn_lsp_text.specs.declared.reply.Reply.{Reply}
use Rattle.jn_lsp_text.specs.declared.reply.Reply.TheVariants.{Show}
use Rattle.jn_lsp.specs.declared.event.Event.{Event}
use Rattle.jn_lsp.specs.declared.event.Event.TheVariants.{Folder, Message as MessageEvent}
use Rattle.jn_lsp.specs.Publications.{last_published}
use Rattle.jn_lsp.specs.Serving.{ArePublishedLast, IsUpToDate, ServerOf, Serves, Takes, files_of, new_server}
use Rattle.jn_lsp.proofs.LastPublished.{last_both}
use Rattle.nullcheck_lsp_top.specs.declared.client.Client.{Client}
use Rattle.nullcheck_lsp_top.specs.Announcing.{begins, ends}
use Rattle.nullcheck_lsp_top.specs.Hearing.{Hears, HearsAll, LooksWhere, announced, begun, ended, foreign, looks, noticed, taken_as}
use Rattle.nullcheck_lsp_top.specs.Looking.{Outside, new_client}
use Rattle.nullcheck_lsp_top.specs.Placing.{asks, is_asked, says}
use Rattle.nullcheck_lsp_top.specs.Reading.{is_among, shows}

-- ---- what was published last

-- what is shown publishes nothing
shown_last : (name : List ℕ) (before : List Diagnostic) (words : List (List ℕ)) → last_published name before (map Show words) ≡ before
shown_last name before [] = refl
shown_last name before (w ∷ words) = shown_last name before words

-- two lists of replies publish the same
abbrev PublishSame : List Reply → List Reply → Type 0
PublishSame xs ys = (name : List ℕ) (before : List Diagnostic) → last_published name before xs ≡ last_published name before ys

both_same : (xs ys zs ws : List Reply) → PublishSame xs ys → PublishSame zs ws → PublishSame (xs ++ zs) (ys ++ ws)
both_same xs ys zs ws a b name before =
    last_both name before xs zs ∙ ap (λ (d : List Diagnostic). last_published name d zs) (a name before) ∙ b name (last_published name before ys) ∙ sym (last_both name before ys ws)

-- ---- events

serves_both : (a b c : ServerOf) (es fs : List Event) (rs ss : List Reply) → Serves a es rs b → Serves b fs ss c → Serves a (es ++ fs) (rs ++ ss) c
serves_both a b c [] fs rs ss (none, is) g = subst (λ (xs : List Reply). Serves a fs (xs ++ ss) c) (sym none) (subst (λ (s : ServerOf). Serves s fs ss c) is g)
serves_both a b c (e ∷ es) fs rs ss (first, rest, mid, all, takes, others) g =
    (first, rest ++ ss, mid, ap (λ (xs : List Reply). xs ++ ss) all ∙ append_assoc first rest ss, takes, serves_both mid b c es fs rest ss others g)

-- events that a server took, whose replies publish the same as these
record Took (before : ServerOf) (replies : List Reply) (after : ServerOf) : Type 0 where
  pub events : List Event
  pub said : List Reply
  pub serves : Serves before events said after
  pub same : PublishSame replies said

took_none : (before after : ServerOf) (replies : List Reply) → after ≡ before → replies ≡ [] → Took before replies after
took_none before after replies is none = record { events = []; said = []; serves = (refl, is); same = (λ name d. ap (λ (xs : List Reply). last_published name d xs) none) }

took_one : (before after : ServerOf) (event : Event) (replies : List Reply) → Takes before event replies after → Took before replies after
took_one before after event replies takes = record {
  events = event ∷ [];
  said = replies;
  serves = (replies, [], after, sym (append-nil replies), takes, (refl, refl));
  same = (λ name d. refl);
}

took_both : (a b c : ServerOf) (xs ys : List Reply) → Took a xs b → Took b ys c → Took a (xs ++ ys) c
took_both a b c xs ys p q = record {
  events = p.events ++ q.events;
  said = p.said ++ q.said;
  serves = serves_both a b c p.events q.events p.said q.said p.serves q.serves;
  same = both_same xs p.said ys q.said p.same q.same;
}

-- warnings before it publish nothing
took_shown : (before after : ServerOf) (words : List (List ℕ)) (replies : List Reply) → Took before replies after → Took before (map Show words ++ replies) after
took_shown before after words replies p = record {
  events = p.events;
  said = p.said;
  serves = p.serves;
  same = (λ name d. last_both name d (map Show words) replies ∙ ap (λ (e : List Diagnostic). last_published name e replies) (shown_last name d words) ∙ p.same name d);
}

is_taken : (before after : ServerOf) (xs ys : List Reply) → xs ≡ ys → Took before ys after → Took before xs after
is_taken before after xs ys is p = subst (λ (rs : List Reply). Took before rs after) (sym is) p

looked : (b : Bool) (held : Option Holding) (old new : Outside) (before after : Client) (replies : List Reply) → LooksWhere b held old new before after replies → Took before.server replies after.server
looked false held old new before after replies (same, is, none) = took_none before.server after.server replies (ap (λ (c : Client). c.server) is) none
looked true held old new before after replies l =
    is_taken before.server after.server replies (shows before.shown after.shown ++ l.news) l.all
    (took_shown before.server after.server (filter (λ words. not (is_among before.shown words)) after.shown) l.news (took_one before.server after.server (Folder l.files) l.news l.takes))

-- what is sent before an answer publishes nothing
asks_silent : (asked : Bool) (name : List ℕ) (before : List Diagnostic) → last_published name before (asks asked) ≡ before
asks_silent false name before = refl
asks_silent true name before = refl

says_silent : (said : Bool) (foreign_ : Option (List ℕ)) (name : List ℕ) (before : List Diagnostic) → last_published name before (says said foreign_) ≡ before
says_silent said None name before = refl
says_silent true (Some other) name before = refl
says_silent false (Some other) name before = refl

both_silent : (asked said : Bool) (foreign_ : Option (List ℕ)) (name : List ℕ) (before : List Diagnostic) → last_published name before (asks asked ++ says said foreign_) ≡ before
both_silent asked said foreign_ name before =
    last_both name before (asks asked) (says said foreign_) ∙ ap (λ (d : List Diagnostic). last_published name d (says said foreign_)) (asks_silent asked name before) ∙ says_silent said foreign_ name before

took_behind : (before after : ServerOf) (sent replies : List Reply) → ((name : List ℕ) (d : List Diagnostic) → last_published name d sent ≡ d) → Took before replies after → Took before (sent ++ replies) after
took_behind before after sent replies silent p = record {
  events = p.events;
  said = p.said;
  serves = p.serves;
  same = (λ name d. last_both name d sent replies ∙ ap (λ (e : List Diagnostic). last_published name e replies) (silent name d) ∙ p.same name d);
}

-- nor what is sent before the check at a message, nor what is sent after it
begins_silent : (announced_ : Bool) (number : ℕ) (name : List ℕ) (before : List Diagnostic) → last_published name before (begins announced_ number) ≡ before
begins_silent false number name before = refl
begins_silent true number name before = refl

ends_silent : (announced_ : Bool) (number : ℕ) (name : List ℕ) (before : List Diagnostic) → last_published name before (ends announced_ number) ≡ before
ends_silent false number name before = refl
ends_silent true number name before = refl

took_before : (before after : ServerOf) (replies sent : List Reply) → ((name : List ℕ) (d : List Diagnostic) → last_published name d sent ≡ d) → Took before replies after → Took before (replies ++ sent) after
took_before before after replies sent silent p = record {
  events = p.events;
  said = p.said;
  serves = p.serves;
  same = (λ name d. last_both name d replies sent ∙ silent name (last_published name d replies) ∙ p.same name d);
}

heard_one : (held : Option Holding) (old new : Outside) (before after : Client) (message : Message) (replies : List Reply) → Hears held old new before message replies after → Took before.server replies after.server
heard_one held old new before after message replies h =
    let taken = taken_as before message in
    let sent = noticed before message in
    let one = (h.first ++ h.more) ++ ended before message in
    is_taken before.server after.server replies (begun before message ++ (sent ++ one)) h.all
    (took_behind before.server after.server (begun before message) (sent ++ one) (begins_silent (announced before message) before.progress.next)
    (took_behind before.server after.server sent one (both_silent (is_asked before.server.phase before.root message) before.said (foreign before message))
    (took_before before.server after.server (h.first ++ h.more) (ended before message) (ends_silent (announced before message) before.progress.next)
    (took_both before.server h.mid.server after.server h.first h.more (took_one before.server h.mid.server (MessageEvent taken) h.first h.takes) (looked (looks before.server.phase taken) held h.out new h.mid after h.more h.behind)))))

heard_all : (held : Option Holding) (old new : Outside) (before after : Client) (frames : List Frame) (replies : List Reply) → HearsAll held old new before frames replies after → Took before.server replies after.server
heard_all held old new before after [] replies (same, none, is) = took_none before.server after.server replies (ap (λ (c : Client). c.server) is) none
heard_all held old new before after (frame ∷ frames) replies (mid, client, message, first, rest, reads, hears, all, others) =
    is_taken before.server after.server replies (first ++ rest) all
    (took_both before.server client.server after.server first rest (heard_one held old mid before client message first hears) (heard_all held mid new client after frames rest others))

pub up_to_date : ((infer : Infer) (events : List Event) (replies : List Reply) (after : ServerOf) → Serves (new_server infer) events replies after → IsUpToDate after replies) → (infer : Infer) (held : Option Holding) (old new : Outside) (client : Client) (frames : List Frame) (replies : List Reply) → HearsAll held old new (new_client infer) frames replies client → IsUpToDate client.server replies
up_to_date law infer held old new client frames replies h =
    let t = heard_all held old new (new_client infer) client frames replies h in
    let last : (λ name. last_published name [] t.said) ≡ (λ name. last_published name [] replies) = λ i name. sym (t.same name []) i in
    subst (ArePublishedLast client.server.workspace.infer client.server.workspace.encoding client.server.last client.server.workspace.unknown (files_of client.server.workspace)) last (law infer t.events t.said client.server t.serves)
