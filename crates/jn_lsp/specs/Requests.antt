-- Requests and what answers them: a response has the id of its request (JSON-RPC 2.0, section 5).
use Rattle.std.specs.Prelude.{◌≡◌, ◌++◌, Bool, true, false, List, [], ◌∷◌, Option, Some, None, option_to_list, if◌then◌else◌}
use Rattle.std.specs.List.{flat_map}
use Rattle.jn_lsp_text.specs.declared.id.Id.{Id}
use Rattle.jn_lsp_text.specs.declared.message.Message.{Message}
use Rattle.jn_lsp_text.specs.declared.message.Message.TheVariants.{Initialize, CodeAction, InlayHint, Hover, Shutdown, Exit, Unknown, BadParams}
use Rattle.jn_lsp_text.specs.declared.reply.Reply.{Reply}
use Rattle.jn_lsp_text.specs.declared.reply.Reply.TheVariants.{Capabilities, Done, Refusal, Actions, Hints, Hovered}
use Rattle.jn_lsp.specs.declared.event.Event.{Event}
use Rattle.jn_lsp.specs.declared.event.Event.TheVariants.{Folder, Message as MessageEvent}

-- the id of a request; a notification has none, nor what can't be read
abbrev pub id_asked : Message → Option Id
id_asked (Initialize id folders infer files exclude markup encoding progress) = Some id
id_asked (CodeAction id name range) = Some id
id_asked (InlayHint id name range) = Some id
id_asked (Hover id name position) = Some id
id_asked (Shutdown id) = Some id
id_asked (Unknown id) = Some id
id_asked (BadParams id) = id
id_asked _ = None

-- the id of the request that a reply answers; a notification has none, nor the refusal of what can't be read
abbrev pub id_answered : Reply → Option Id
id_answered (Capabilities id encoding) = Some id
id_answered (Done id) = Some id
id_answered (Refusal id failure) = id
id_answered (Actions id actions) = Some id
id_answered (Hints id hints) = Some id
id_answered (Hovered id markup hover) = Some id
id_answered _ = None

abbrev pub is_exit : Event → Bool
is_exit (MessageEvent Exit) = true
is_exit _ = false

abbrev pub id_in : Event → Option Id
id_in (MessageEvent message) = id_asked message
id_in (Folder files) = None

-- the ids of the requests that come before `exit`, in their order
abbrev pub ids_asked : List Event → List Id
ids_asked [] = []
ids_asked (event ∷ events) = if is_exit event then [] else option_to_list (id_in event) ++ ids_asked events

abbrev pub ids_answered : List Reply → List Id
ids_answered replies = flat_map (λ reply. option_to_list (id_answered reply)) replies

-- each request is answered once, in order, and nothing else is
abbrev pub AreAnswered : List Event → List Reply → Type 0
AreAnswered events replies = ids_answered replies ≡ ids_asked events
