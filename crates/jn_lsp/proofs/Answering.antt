-- Each request is answered once.
use Rattle.std.proofs.Common.{◌≡◌, ◌⊎◌, ℕ, Bool, true, false, List, [], ◌∷◌, ◌++◌, append-nil, cond, Option, Some, None, refl, sym, ap, ◌∙◌, subst, inl, inr}
use Rattle.std.specs.Prelude.{option_to_list}
use Rattle.std.proofs.lemmas.Grind.{flat_map-append}
use Rattle.jn_base.specs.declared.infer.Infer.{Infer}
use Rattle.jn_lsp_text.specs.declared.id.Id.{Id}
use Rattle.jn_lsp_text.specs.declared.message.Message.{Message}
use Rattle.jn_lsp_text.specs.declared.message.Message.TheVariants.{Initialize, Initialized, DidOpen, DidChange, DidSave, DidClose, WatchedFiles, ChangedFolders, CodeAction, InlayHint, Hover as HoverAsked, Shutdown, Exit, Ignored, Unknown, BadDocument, BadParams, NoMessage, NoJson, BadHeader, TooLarge}
use Rattle.jn_lsp_text.specs.declared.reply.Action.{Action}
use Rattle.jn_lsp_text.specs.declared.reply.Diagnostic.{Diagnostic}
use Rattle.jn_lsp_text.specs.declared.reply.Failure.{Failure}
use Rattle.jn_lsp_text.specs.declared.markup.Markup.{Markup}
use Rattle.jn_lsp_text.specs.declared.reply.Hint.{Hint}
use Rattle.jn_lsp_text.specs.declared.reply.Hover.{Hover}
use Rattle.jn_lsp_text.specs.declared.reply.Reply.{Reply}
use Rattle.jn_lsp.specs.declared.versions.Version.{Version}
use Rattle.jn_lsp.specs.declared.diagnostics.Told.{Told}
use Rattle.jn_lsp.specs.declared.documents.Workspace.{Workspace}
use Rattle.jn_lsp.specs.declared.event.Event.{Event}
use Rattle.jn_lsp.specs.declared.event.Event.TheVariants.{Folder, Message as MessageEvent}
use Rattle.jn_lsp.specs.declared.phase.Phase.{Phase}
use Rattle.jn_lsp.specs.declared.phase.Phase.TheVariants.{Waiting, Serving, ShutDown, Exited}
use Rattle.jn_lsp.specs.Publications.{ArePublished, gone, last_published}
use Rattle.jn_lsp.specs.Requests.{AreAnswered, id_answered, id_asked, id_in, ids_answered, ids_asked, is_exit}
use Rattle.jn_lsp.specs.Unknown.{doubts_in}
use Rattle.jn_lsp.proofs.Hushing.{doubts_unasked}
use Rattle.jn_lsp.specs.Serving.{AreAnswers, IsRetold, Serves, ServerOf, Takes, answer_of, late_answer, opened_by, new_server, next_phase, phase_behind, refusal, serving_answer, waiting_answer}

-- ---- publications answer nothing

published_silent : (opened : Option (List ℕ)) (versions : List Version) (before told : List Told) (replies : List Reply) → ArePublished opened versions before told replies → ids_answered replies ≡ []
published_silent opened versions before [] replies are = ap ids_answered are
published_silent opened versions before (one ∷ told) replies (inl (same, are)) = published_silent opened versions before told replies are
published_silent opened versions before (one ∷ told) replies (inr (differs, (rest, e, are))) = ap ids_answered e ∙ published_silent opened versions before told rest are

news_silent : (opened : Option (List ℕ)) (moved : Option Workspace) (before after : ServerOf) (news : List Reply) → IsRetold opened moved before news after → ids_answered news ≡ []
news_silent opened None before after news (nothing, same, told, last) = ap ids_answered nothing
news_silent opened (Some workspace) before after news (is, told, announces) = published_silent opened workspace.versions before.told (gone before.told after.told ++ after.told) news announces

both_answered : (one other : List Reply) → ids_answered (one ++ other) ≡ ids_answered one ++ ids_answered other
both_answered one other = flat_map-append (λ reply. option_to_list (id_answered reply)) one other

-- ---- answers

abbrev IsAnswer : Option Reply → Option Id → Type 0
IsAnswer reply id = ids_answered (option_to_list reply) ≡ option_to_list id

refused : (failure : Failure) (id : Option Id) → IsAnswer (refusal failure id) id
refused failure None = refl
refused failure (Some id) = refl

module _ (name : List ℕ) (last : List Diagnostic) where
  -- it publishes nothing
  abbrev pub IsSilent : Option Reply → Type 0
  IsSilent reply = last_published name last (option_to_list reply) ≡ last

  refusal_silent : (failure : Failure) (id : Option Id) → IsSilent (refusal failure id)
  refusal_silent failure None = refl
  refusal_silent failure (Some id) = refl

  -- before `initialize`, while the server serves and after `shutdown`: each answer has its request's id, and publishes nothing
  pub each_answer : (markup : Markup) (actions : List Action) (hints : List Hint) (hover : Option Hover) (message : Message) →
      IsAnswer (waiting_answer message) (id_asked message) × IsSilent (waiting_answer message)
      × IsAnswer (serving_answer markup actions hints hover message) (id_asked message) × IsSilent (serving_answer markup actions hints hover message)
      × IsAnswer (late_answer message) (id_asked message) × IsSilent (late_answer message)
  each_answer markup actions hints hover (Initialize id folders infer files exclude other encoding progress) = (refl, refl, refl, refl, refl, refl)
  each_answer markup actions hints hover Initialized = (refl, refl, refl, refl, refl, refl)
  each_answer markup actions hints hover (DidOpen named version text) = (refl, refl, refl, refl, refl, refl)
  each_answer markup actions hints hover (DidChange named version changes) = (refl, refl, refl, refl, refl, refl)
  each_answer markup actions hints hover (DidSave named) = (refl, refl, refl, refl, refl, refl)
  each_answer markup actions hints hover (DidClose named) = (refl, refl, refl, refl, refl, refl)
  each_answer markup actions hints hover WatchedFiles = (refl, refl, refl, refl, refl, refl)
  each_answer markup actions hints hover (ChangedFolders added removed) = (refl, refl, refl, refl, refl, refl)
  each_answer markup actions hints hover (CodeAction id named range) = (refl, refl, refl, refl, refl, refl)
  each_answer markup actions hints hover (InlayHint id named range) = (refl, refl, refl, refl, refl, refl)
  each_answer markup actions hints hover (HoverAsked id named position) = (refl, refl, refl, refl, refl, refl)
  each_answer markup actions hints hover (Shutdown id) = (refl, refl, refl, refl, refl, refl)
  each_answer markup actions hints hover Exit = (refl, refl, refl, refl, refl, refl)
  each_answer markup actions hints hover Ignored = (refl, refl, refl, refl, refl, refl)
  each_answer markup actions hints hover (Unknown id) = (refl, refl, refl, refl, refl, refl)
  each_answer markup actions hints hover (BadDocument named) = (refl, refl, refl, refl, refl, refl)
  each_answer markup actions hints hover (BadParams id) = (refused _ id, refusal_silent _ id, refused _ id, refusal_silent _ id, refused _ id, refusal_silent _ id)
  each_answer markup actions hints hover NoMessage = (refl, refl, refl, refl, refl, refl)
  each_answer markup actions hints hover NoJson = (refl, refl, refl, refl, refl, refl)
  each_answer markup actions hints hover BadHeader = (refl, refl, refl, refl, refl, refl)
  each_answer markup actions hints hover TooLarge = (refl, refl, refl, refl, refl, refl)

-- ---- phases

-- no `exit` came yet
abbrev IsLive : Phase → Type 0
IsLive Waiting = Unit {0}
IsLive Serving = Unit {0}
IsLive ShutDown = Unit {0}
IsLive (Exited in_order) = ⊥

abbrev IsGone : Phase → Type 0
IsGone Waiting = ⊥
IsGone Serving = ⊥
IsGone ShutDown = ⊥
IsGone (Exited in_order) = Unit {0}

answer_one : (markup : Markup) (actions : List Action) (hints : List Hint) (hover : Option Hover) (phase : Phase) (message : Message) → IsLive phase → IsAnswer (answer_of markup actions hints hover phase message) (id_asked message)
answer_one markup actions hints hover Waiting message live = (each_answer [] [] markup actions hints hover message).0
answer_one markup actions hints hover Serving message live = (each_answer [] [] markup actions hints hover message).2
answer_one markup actions hints hover ShutDown message live = (each_answer [] [] markup actions hints hover message).4
answer_one markup actions hints hover (Exited in_order) _ live = absurd live

-- warnings answer nothing
warned : (server : ServerOf) (message : Message) (answer : Option Reply) → ids_answered (option_to_list answer ++ doubts_in server.phase message server.workspace.documents server.workspace.unknown) ≡ ids_answered (option_to_list answer)
warned server message answer =
    let documents = server.workspace.documents in
    let unknown = server.workspace.unknown in
    both_answered (option_to_list answer) (doubts_in server.phase message documents unknown)
    ∙ ap (λ ids. ids_answered (option_to_list answer) ++ ids) (doubts_unasked server.phase message documents unknown)
    ∙ append-nil (ids_answered (option_to_list answer))

answers_one : (server : ServerOf) (event : Event) (direct : List Reply) → AreAnswers server.phase server.told server.workspace event direct → IsLive server.phase → ids_answered direct ≡ option_to_list (id_in event)
answers_one server (MessageEvent message) direct (actions, offered, hints, shown, hover, told, e) live = ap ids_answered e ∙ warned server message (answer_of server.workspace.markup actions hints hover server.phase message) ∙ answer_one server.workspace.markup actions hints hover server.phase message live
answers_one server (Folder files) direct e live = ap ids_answered e

answer_none : (markup : Markup) (actions : List Action) (hints : List Hint) (hover : Option Hover) (phase : Phase) (message : Message) → IsGone phase → IsAnswer (answer_of markup actions hints hover phase message) None
answer_none markup actions hints hover Waiting _ gone = absurd gone
answer_none markup actions hints hover Serving _ gone = absurd gone
answer_none markup actions hints hover ShutDown _ gone = absurd gone
answer_none markup actions hints hover (Exited in_order) _ gone = refl

answers_none : (server : ServerOf) (event : Event) (direct : List Reply) → AreAnswers server.phase server.told server.workspace event direct → IsGone server.phase → ids_answered direct ≡ []
answers_none server (MessageEvent message) direct (actions, offered, hints, shown, hover, told, e) gone = ap ids_answered e ∙ warned server message (answer_of server.workspace.markup actions hints hover server.phase message) ∙ answer_none server.workspace.markup actions hints hover server.phase message gone
answers_none server (Folder files) direct e gone = ap ids_answered e

clash : {X : Type 0} → true ≡ false → X
clash e = absurd (cc)

-- a message that isn't `exit` leaves a server live
abbrev StaysLive : Message → Type 0
StaysLive message = (is_exit (MessageEvent message) ≡ false) × IsLive (phase_behind Waiting message) × IsLive (phase_behind Serving message) × IsLive (phase_behind ShutDown message)

exit_or_live : (message : Message) → (message ≡ Exit) ⊎ StaysLive message
exit_or_live (Initialize id folders infer files exclude markup encoding progress) = inr (refl, tt, tt, tt)
exit_or_live Initialized = inr (refl, tt, tt, tt)
exit_or_live (DidOpen name version text) = inr (refl, tt, tt, tt)
exit_or_live (DidChange name version changes) = inr (refl, tt, tt, tt)
exit_or_live (DidSave name) = inr (refl, tt, tt, tt)
exit_or_live (DidClose name) = inr (refl, tt, tt, tt)
exit_or_live WatchedFiles = inr (refl, tt, tt, tt)
exit_or_live (ChangedFolders added removed) = inr (refl, tt, tt, tt)
exit_or_live (CodeAction id name range) = inr (refl, tt, tt, tt)
exit_or_live (InlayHint id name range) = inr (refl, tt, tt, tt)
exit_or_live (HoverAsked id name position) = inr (refl, tt, tt, tt)
exit_or_live (Shutdown id) = inr (refl, tt, tt, tt)
exit_or_live Exit = inl refl
exit_or_live Ignored = inr (refl, tt, tt, tt)
exit_or_live (Unknown id) = inr (refl, tt, tt, tt)
exit_or_live (BadDocument name) = inr (refl, tt, tt, tt)
exit_or_live (BadParams id) = inr (refl, tt, tt, tt)
exit_or_live NoMessage = inr (refl, tt, tt, tt)
exit_or_live NoJson = inr (refl, tt, tt, tt)
exit_or_live BadHeader = inr (refl, tt, tt, tt)
exit_or_live TooLarge = inr (refl, tt, tt, tt)

stays_live : (message : Message) → (message ≡ Exit) ⊎ StaysLive message → is_exit (MessageEvent message) ≡ false → StaysLive message
stays_live message (inl same) e = clash (sym (ap (λ m. is_exit (MessageEvent m)) same) ∙ e)
stays_live message (inr live) e = live

live_on : (phase : Phase) (event : Event) → IsLive phase → is_exit event ≡ false → IsLive (next_phase phase event)
live_on Waiting (MessageEvent message) live e = (stays_live message (exit_or_live message) e).1
live_on Serving (MessageEvent message) live e = (stays_live message (exit_or_live message) e).2
live_on ShutDown (MessageEvent message) live e = (stays_live message (exit_or_live message) e).3
live_on (Exited in_order) event live e = absurd live
live_on Waiting (Folder files) live e = tt
live_on Serving (Folder files) live e = tt
live_on ShutDown (Folder files) live e = tt

is_the_exit : (message : Message) → (message ≡ Exit) ⊎ StaysLive message → is_exit (MessageEvent message) ≡ true → message ≡ Exit
is_the_exit message (inl same) e = same
is_the_exit message (inr live) e = clash (sym e ∙ live.0)

exit_is : (message : Message) → is_exit (MessageEvent message) ≡ true → message ≡ Exit
exit_is message e = is_the_exit message (exit_or_live message) e

exits : (phase : Phase) → IsGone (phase_behind phase Exit)
exits Waiting = tt
exits Serving = tt
exits ShutDown = tt
exits (Exited in_order) = tt

gone_by : (phase : Phase) (event : Event) → is_exit event ≡ true → IsGone (next_phase phase event)
gone_by phase (MessageEvent message) e = subst (λ m. IsGone (phase_behind phase m)) (sym (exit_is message e)) (exits phase)
gone_by phase (Folder files) e = clash (sym e)

asks_nothing : (event : Event) → is_exit event ≡ true → option_to_list (id_in event) ≡ []
asks_nothing (MessageEvent message) e = ap (λ m. option_to_list (id_asked m)) (exit_is message e)
asks_nothing (Folder files) e = refl

gone_on : (phase : Phase) (event : Event) → IsGone phase → IsGone (next_phase phase event)
gone_on Waiting event gone = absurd gone
gone_on Serving event gone = absurd gone
gone_on ShutDown event gone = absurd gone
gone_on (Exited in_order) (MessageEvent _) gone = tt
gone_on (Exited in_order) (Folder files) gone = tt

-- ---- events

-- what is answered after an event are its answers
taken : (before after : ServerOf) (event : Event) (replies : List Reply) (takes : Takes before event replies after) → ids_answered replies ≡ ids_answered takes.direct
taken before after event replies takes =
    ap ids_answered takes.all
    ∙ both_answered takes.direct takes.news
    ∙ ap (λ ids. ids_answered takes.direct ++ ids) (news_silent (opened_by event) takes.moved before after takes.news takes.retold)
    ∙ append-nil (ids_answered takes.direct)

all_none : (events : List Event) (before after : ServerOf) (replies : List Reply) → IsGone before.phase → Serves before events replies after → ids_answered replies ≡ []
all_none [] before after replies gone (nothing, same) = ap ids_answered nothing
all_none (event ∷ events) before after replies gone (first, rest, mid, e, takes, serves) =
    ap ids_answered e
    ∙ both_answered first rest
    ∙ ap (λ ids. ids ++ ids_answered rest) (taken before mid event first takes ∙ answers_none before event takes.direct takes.answers gone)
    ∙ all_none events mid after rest (subst IsGone (sym takes.phase) (gone_on before.phase event gone)) serves

behind : (event : Event) (events : List Event) (rest : List Reply) (b : Bool) → is_exit event ≡ b → (is_exit event ≡ true → ids_answered rest ≡ []) → (is_exit event ≡ false → ids_answered rest ≡ ids_asked events) → option_to_list (id_in event) ++ ids_answered rest ≡ cond b [] (option_to_list (id_in event) ++ ids_asked events)
behind event events rest true t none more = ap (λ ids. ids ++ ids_answered rest) (asks_nothing event t) ∙ none t
behind event events rest false t none more = ap (λ ids. option_to_list (id_in event) ++ ids) (more t)

all_answered : (events : List Event) (before after : ServerOf) (replies : List Reply) → IsLive before.phase → Serves before events replies after → AreAnswered events replies
all_answered [] before after replies live (nothing, same) = ap ids_answered nothing
all_answered (event ∷ events) before after replies live (first, rest, mid, e, takes, serves) =
    ap ids_answered e
    ∙ both_answered first rest
    ∙ ap (λ ids. ids ++ ids_answered rest) (taken before mid event first takes ∙ answers_one before event takes.direct takes.answers live)
    ∙ behind event events rest (is_exit event) refl (λ t. all_none events mid after rest (subst IsGone (sym takes.phase) (gone_by before.phase event t)) serves) (λ t. all_answered events mid after rest (subst IsLive (sym takes.phase) (live_on before.phase event live t)) serves)

pub answered : (infer : Infer) (events : List Event) (replies : List Reply) (after : ServerOf) → Serves (new_server infer) events replies after → AreAnswered events replies
answered infer events replies after serves = all_answered events (new_server infer) after replies tt serves
