-- What an event makes of a server, and what is replied to it (Language Server Protocol 3.17, "Server lifecycle").
use Rattle.std.specs.Prelude.{ℕ, ◌≡◌, ◌++◌, Bool, true, false, List, [], ◌∷◌, Option, Some, None, ◌&&◌, if◌then◌else◌, option_to_list}
use Rattle.std.specs.List.{list_any}
use Rattle.jn_base.specs.declared.infer.Infer.{Infer}
use Rattle.jn_command.specs.declared.report.Report.{Report}
use Rattle.jn_front.specs.declared.source.SourceFile.{SourceFile}
use Rattle.jn_lsp_actions.specs.Asking.{meets}
use Rattle.jn_lsp_actions.specs.Offered.{AreActions}
use Rattle.jn_lsp_text.specs.Choices.{chosen}
use Rattle.jn_lsp_text.specs.declared.encoding.Encoding.{Encoding}
use Rattle.jn_lsp_text.specs.declared.encoding.Encoding.TheVariants.{Utf16}
use Rattle.jn_lsp_text.specs.declared.range.Range.{Range}
use Rattle.jn_lsp_text.specs.declared.id.Id.{Id}
use Rattle.jn_lsp_text.specs.declared.markup.Markup.{Markup}
use Rattle.jn_lsp_text.specs.declared.markup.Markup.TheVariants.{Plain}
use Rattle.jn_lsp_text.specs.declared.message.Message.{Message}
use Rattle.jn_lsp_text.specs.declared.message.Message.TheVariants.{Initialize, Initialized, DidOpen, DidChange, DidSave, DidClose, WatchedFiles, ChangedFolders, CodeAction, InlayHint, Hover as HoverAsked, Shutdown, Exit, Ignored, Unknown, BadDocument, BadParams, NoMessage, NoJson, BadHeader, TooLarge}
use Rattle.jn_lsp_text.specs.declared.reply.Action.{Action}
use Rattle.jn_lsp_text.specs.declared.reply.Diagnostic.{Diagnostic}
use Rattle.jn_lsp_text.specs.declared.reply.Failure.{Failure}
use Rattle.jn_lsp_text.specs.declared.reply.Failure.TheVariants.{Parse, Request, Method, Params, NotInitialized}
use Rattle.jn_lsp_text.specs.declared.reply.Hint.{Hint}
use Rattle.jn_lsp_text.specs.declared.reply.Hover.{Hover}
use Rattle.jn_lsp_text.specs.declared.reply.Reply.{Reply}
use Rattle.jn_lsp_text.specs.declared.reply.Reply.TheVariants.{Capabilities, Done, Refusal, Actions, Hints, Hovered}
use Rattle.jn_note_words.specs.declared.note.Notes.{Notes}
use Rattle.jn_lsp.specs.declared.diagnostics.Told.{Told}
use Rattle.jn_lsp.specs.declared.event.Event.{Event}
use Rattle.jn_lsp.specs.declared.event.Event.TheVariants.{Folder, Message as MessageEvent}
use Rattle.jn_lsp.specs.declared.documents.Workspace.{Workspace}
use Rattle.jn_lsp.specs.declared.versions.Version.{Version}
use Rattle.jn_lsp.specs.declared.phase.Phase.{Phase}
use Rattle.jn_lsp.specs.declared.phase.Phase.TheVariants.{Waiting, Serving, ShutDown, Exited}
use Rattle.jn_lsp.specs.Edits.{AreEdited}
use Rattle.jn_lsp.specs.Hinting.{AreHintsIn}
use Rattle.jn_lsp.specs.Hovering.{IsHoverIn}
use Rattle.jn_lsp.specs.Names.{is_empty}
use Rattle.jn_lsp.specs.Publications.{Announces, last_published}
use Rattle.jn_lsp.specs.Stand.{stand}
use Rattle.jn_lsp.specs.Tracking.{versions_behind}
use Rattle.jn_lsp.specs.declared.unchecked.LastReport.{LastReport}
use Rattle.jn_lsp.specs.Reported.{AreFindings, IsTold, next_last, no_report, reported_at}
use Rattle.jn_lsp.specs.Telling.{diagnostics_of, told_of}
use Rattle.jn_lsp.specs.Unknown.{doubts_in, hushed, touches, unknown_behind, unless_unknown}

-- ---- requests and phases

-- how a message is refused that can't be read; no id was read
abbrev pub unread : Message → Option Failure
unread NoMessage = Some Request
unread TooLarge = Some Request
unread NoJson = Some Parse
unread BadHeader = Some Parse
unread (Initialize id folders infer files exclude markup encoding progress) = None
unread Initialized = None
unread (DidOpen name version text) = None
unread (DidChange name version changes) = None
unread (DidSave name) = None
unread (DidClose name) = None
unread WatchedFiles = None
unread (ChangedFolders added removed) = None
unread (CodeAction id name range) = None
unread (InlayHint id name range) = None
unread (HoverAsked id name position) = None
unread (Shutdown id) = None
unread Exit = None
unread Ignored = None
unread (Unknown id) = None
unread (BadDocument name) = None
unread (BadParams id) = None

abbrev pub refusal : Failure → Option Id → Option Reply
refusal failure None = None
refusal failure (Some id) = Some (Refusal (Some id) failure)

abbrev pub nameless : Option Failure → Option Reply
nameless None = None
nameless (Some failure) = Some (Refusal None failure)

-- where no request is taken, each is refused so
abbrev pub untaken : Failure → Message → Option Reply
untaken failure (Initialize id folders infer files exclude markup encoding progress) = refusal failure (Some id)
untaken failure (CodeAction id name range) = refusal failure (Some id)
untaken failure (InlayHint id name range) = refusal failure (Some id)
untaken failure (HoverAsked id name position) = refusal failure (Some id)
untaken failure (Shutdown id) = refusal failure (Some id)
untaken failure (Unknown id) = refusal failure (Some id)
untaken failure (BadParams id) = refusal failure id
untaken failure other = nameless (unread other)

-- before `initialize` no other request is served
abbrev pub waiting_answer : Message → Option Reply
waiting_answer (Initialize id folders infer files exclude markup encoding progress) = Some (Capabilities id encoding)
waiting_answer (BadParams id) = refusal Params id
waiting_answer other = untaken NotInitialized other

-- a second `initialize` is refused, and these are the actions, the hints and what is shown at a position, for requests of them
abbrev pub serving_answer : Markup → List Action → List Hint → Option Hover → Message → Option Reply
serving_answer markup actions hints hover (Initialize id folders infer files exclude other encoding progress) = refusal Request (Some id)
serving_answer markup actions hints hover (CodeAction id name range) = Some (Actions id actions)
serving_answer markup actions hints hover (InlayHint id name range) = Some (Hints id hints)
serving_answer markup actions hints hover (HoverAsked id name position) = Some (Hovered id markup hover)
serving_answer markup actions hints hover (Shutdown id) = Some (Done id)
serving_answer markup actions hints hover (Unknown id) = refusal Method (Some id)
serving_answer markup actions hints hover (BadParams id) = refusal Params id
serving_answer markup actions hints hover other = nameless (unread other)

-- after `shutdown` every request is refused
abbrev pub late_answer : Message → Option Reply
late_answer message = untaken Request message

-- the answer to a request, where these actions are offered, and these hints and this is shown; notifications have none, but for those that can't be read
abbrev pub answer_of : Markup → List Action → List Hint → Option Hover → Phase → Message → Option Reply
answer_of markup actions hints hover Waiting message = waiting_answer message
answer_of markup actions hints hover Serving message = serving_answer markup actions hints hover message
answer_of markup actions hints hover ShutDown message = late_answer message
answer_of markup actions hints hover (Exited in_order) _ = None

abbrev pub phase_behind : Phase → Message → Phase
phase_behind Waiting (Initialize id folders infer files exclude markup encoding progress) = Serving
phase_behind Waiting Exit = Exited false
phase_behind Waiting _ = Waiting
phase_behind Serving (Shutdown id) = ShutDown
phase_behind Serving Exit = Exited false
phase_behind Serving _ = Serving
phase_behind ShutDown Exit = Exited true
phase_behind ShutDown _ = ShutDown
phase_behind (Exited in_order) _ = Exited in_order

-- ---- events

-- the folder's files may be others after this message
abbrev pub wants_folder : Message → Bool
wants_folder Initialized = true
wants_folder WatchedFiles = true
wants_folder (ChangedFolders added removed) = true
wants_folder (DidSave name) = true
wants_folder (DidClose name) = true
wants_folder _ = false

abbrev pub next_phase : Phase → Event → Phase
next_phase phase (MessageEvent message) = phase_behind phase message
next_phase phase (Folder files) = phase

abbrev pub workspace_of : Infer → Markup → Encoding → List SourceFile → List SourceFile → List (List ℕ) → List Version → Workspace
workspace_of infer markup encoding disk documents unknown versions = record { infer = infer; markup = markup; encoding = encoding; disk = disk; documents = documents; unknown = unknown; versions = versions }

-- a workspace after a message that makes of its documents these, or leaves them; none where it doesn't touch which texts are unknown either
abbrev pub moved_by : Message → Workspace → Option (List SourceFile) → Option Workspace
moved_by message before None = if touches message then Some (workspace_of before.infer before.markup before.encoding before.disk before.documents (unknown_behind message before.documents before.unknown) (versions_behind message before.documents before.versions)) else None
moved_by message before (Some documents) = Some (workspace_of before.infer before.markup before.encoding before.disk documents (unknown_behind message before.documents before.unknown) (versions_behind message before.documents before.versions))

-- the folder's files, the open documents, and those of unknown texts, after an event; none where it changes none of them
abbrev pub IsMoved : Event → Workspace → Option Workspace → Type 0
IsMoved (Folder files) before after = after ≡ Some (workspace_of before.infer before.markup before.encoding files before.documents before.unknown before.versions)
IsMoved (MessageEvent message) before after = (documents : Option (List SourceFile)) × AreEdited before.encoding before.unknown message before.documents documents × (after ≡ moved_by message before documents)

-- `initialize` says which members are inferred, how the client shows what stands at a position, and the unit of positions
abbrev pub chosen_by : Message → Workspace → Option Workspace
chosen_by (Initialize id folders infer files exclude markup encoding progress) before = Some (workspace_of (chosen infer before.infer) markup encoding before.disk before.documents before.unknown before.versions)
chosen_by _ before = None

abbrev pub started_by : Event → Workspace → Option Workspace
started_by (MessageEvent message) before = chosen_by message before
started_by (Folder files) before = None

-- files change only while the server serves, and before that what `initialize` says
abbrev pub IsMovedIn : Phase → Event → Workspace → Option Workspace → Type 0
IsMovedIn Waiting event before after = after ≡ started_by event before
IsMovedIn Serving event before after = IsMoved event before after
IsMovedIn ShutDown event before after = after ≡ None
IsMovedIn (Exited in_order) event before after = after ≡ None

-- ---- servers

-- what a server is: its phase, the folder's files and the open documents, what was told of the files that stand, and the last report that came to the
-- rules
pub record ServerOf : Type 0 where
  pub phase : Phase
  pub workspace : Workspace
  pub told : List Told
  pub last : LastReport

-- a server that infers these members where `initialize` chooses none
abbrev pub new_server : Infer → ServerOf
new_server infer = record { phase = Waiting; workspace = workspace_of infer Plain Utf16 [] [] [] []; told = []; last = no_report }

-- the files as they stand
abbrev pub files_of : Workspace → List SourceFile
files_of workspace = stand workspace.disk workspace.documents

-- ---- actions

abbrev pub is_at : Range → Diagnostic → Bool
is_at range diagnostic = meets diagnostic.range range

-- a diagnostic that is told of the name meets the range; a cursor is a range without characters
abbrev pub is_told_at : List Told → List ℕ → Range → Bool
is_told_at told name range = list_any (is_at range) (told_of told name)

-- something is told there, and all texts are known, since an edit of one that isn't would go astray
abbrev pub is_offered : List Told → Workspace → List ℕ → Range → Bool
is_offered told workspace name range = is_empty workspace.unknown && is_told_at told name range

-- the files' actions, where they are offered; else none
abbrev pub AreActionsIf : Infer → Encoding → Bool → List SourceFile → List ℕ → Range → List Action → Type 0
AreActionsIf infer encoding false files name range actions = actions ≡ []
AreActionsIf infer encoding true files name range actions = AreActions infer encoding files name range actions

-- the actions for a request of actions; other messages have none
abbrev pub AreActionsFor : List Told → Workspace → Message → List Action → Type 0
AreActionsFor told workspace (CodeAction id name range) actions = AreActionsIf workspace.infer workspace.encoding (is_offered told workspace name range) (files_of workspace) name range actions
AreActionsFor told workspace other actions = actions ≡ []

-- actions are offered only while the server serves
abbrev pub AreActionsIn : Phase → List Told → Workspace → Message → List Action → Type 0
AreActionsIn Serving told workspace message actions = AreActionsFor told workspace message actions
AreActionsIn _ _ _ _ actions = actions ≡ []

-- the answers to an event: to a message one at most, and a warning of a choice that says nothing, or for each document whose text it leaves open
abbrev pub AreAnswers : Phase → List Told → Workspace → Event → List Reply → Type 0
AreAnswers phase told workspace (MessageEvent message) replies =
    (actions : List Action) × AreActionsIn phase told workspace message actions
    × (hints : List Hint) × AreHintsIn phase workspace.infer workspace.encoding workspace.unknown (files_of workspace) message hints
    × (hover : Option Hover) × IsHoverIn phase workspace.infer workspace.encoding workspace.unknown (files_of workspace) message hover
    × (replies ≡ option_to_list (answer_of workspace.markup actions hints hover phase message) ++ doubts_in phase message workspace.documents workspace.unknown)
AreAnswers phase told workspace (Folder files) replies = replies ≡ []

-- ---- what a server does

-- the name of the document that an event opens
abbrev pub opened_by : Event → Option (List ℕ)
opened_by (MessageEvent (DidOpen name version text)) = Some name
opened_by _ = None

-- what is told of a workspace: this report of its files as they stand, after that last one that came to the rules, and of files whose text isn't known nothing
pub record AreToldOf (workspace : Workspace) (last : LastReport) (came : Bool) (all told : List Told) : Type 0 where
  pub is : IsTold workspace.infer workspace.encoding last came (files_of workspace) all
  pub told_is : told ≡ hushed workspace.unknown all

-- the report of a workspace is told, and kept where it comes to the rules
pub record IsToldAnew (workspace : Workspace) (before after : LastReport) (told : List Told) : Type 0 where
  pub came : Bool
  pub all : List Told
  pub are : AreToldOf workspace before came all told
  pub keeps : after ≡ next_last came (files_of workspace) all before

-- where files change, their report is told, and what of it wasn't told before is published, with that of the document that is opened
abbrev pub IsRetold : Option (List ℕ) → Option Workspace → ServerOf → List Reply → ServerOf → Type 0
IsRetold opened None before news after = (news ≡ []) × (after.workspace ≡ before.workspace) × (after.told ≡ before.told) × (after.last ≡ before.last)
IsRetold opened (Some workspace) before news after = (after.workspace ≡ workspace) × IsToldAnew workspace before.last after.last after.told × Announces opened workspace.versions before.told after.told news

-- a server takes an event, and gives these replies
pub record Takes (before : ServerOf) (event : Event) (replies : List Reply) (after : ServerOf) : Type 0 where
  pub phase : after.phase ≡ next_phase before.phase event
  pub direct : List Reply
  pub answers : AreAnswers before.phase before.told before.workspace event direct
  pub moved : Option Workspace
  pub moves : IsMovedIn before.phase event before.workspace moved
  pub news : List Reply
  pub retold : IsRetold (opened_by event) moved before news after
  pub all : replies ≡ direct ++ news

-- it takes events, one after the other
abbrev pub Serves : ServerOf → List Event → List Reply → ServerOf → Type 0
Serves before [] replies after = (replies ≡ []) × (after ≡ before)
Serves before (event ∷ events) replies after =
    (first : List Reply) × (rest : List Reply) × (mid : ServerOf)
    × (replies ≡ first ++ rest) × Takes before event first mid × Serves mid events rest after

-- what is told is the report of the files as they stand
abbrev pub IsInformed : ServerOf → Type 0
IsInformed server = (came : Bool) × (all : List Told) × AreToldOf server.workspace server.last came all server.told

-- ---- the theorem

-- of each name this was published last: of no files nothing, else what the files' report says of it where these members are inferred, in this unit of positions, after the last
-- report that came to the rules; a name that doesn't stand has none, nor one whose text isn't known
abbrev pub ArePublishedLast : Infer → Encoding → LastReport → List (List ℕ) → List SourceFile → (List ℕ → List Diagnostic) → Type 0
ArePublishedLast infer encoding last unknown [] published = (name : List ℕ) → published name ≡ []
ArePublishedLast infer encoding last unknown (file ∷ files) published =
    (report : Report) × (notes : List Notes) × AreFindings infer (file ∷ files) report notes
    × ((name : List ℕ) → published name ≡ unless_unknown unknown name (diagnostics_of (reported_at encoding last (file ∷ files) report notes) (file ∷ files) name))

abbrev pub IsUpToDate : ServerOf → List Reply → Type 0
IsUpToDate server replies = ArePublishedLast server.workspace.infer server.workspace.encoding server.last server.workspace.unknown (files_of server.workspace) (λ name. last_published name [] replies)
