-- What a client's messages make of a server, what is read for them, and what is replied.
use Rattle.std.specs.Prelude.{ℕ, ◌≡◌, ◌⊎◌, ◌++◌, ◌||◌, is_some, Bool, true, false, List, [], ◌∷◌, Option, map}
use Rattle.std.specs.List.{AllZip, flat_map}
use Rattle.serde_json.specs.Written.{compact_text}
use Rattle.jn_outside.specs.Files.{Holding}
use Rattle.jn_front.specs.declared.source.SourceFile.{SourceFile}
use Rattle.jn_lsp_frames.specs.declared.frame.Frame.{Frame}
use Rattle.jn_lsp_frames.specs.declared.frame.Frame.TheVariants as frame
use Rattle.jn_lsp_frames.specs.Frames.{frame_of}
use Rattle.jn_lsp_messages.specs.Incoming.{IsMessage}
use Rattle.jn_lsp_messages.specs.Outgoing.{data_of}
use Rattle.jn_lsp_text.specs.declared.message.Message.{Message}
use Rattle.jn_lsp_text.specs.declared.message.Message.TheVariants.{BadHeader, TooLarge}
use Rattle.jn_lsp_text.specs.declared.reply.Reply.{Reply}
use Rattle.jn_lsp.specs.declared.event.Event.TheVariants.{Folder, Message as MessageEvent}
use Rattle.jn_lsp.specs.declared.phase.Phase.{Phase}
use Rattle.jn_lsp.specs.declared.phase.Phase.TheVariants.{Waiting, Serving, ShutDown, Exited}
use Rattle.jn_lsp.specs.Requests.{ids_answered, ids_asked}
use Rattle.jn_lsp.specs.Serving.{Takes, wants_folder}
use Rattle.nullcheck_lsp_top.specs.declared.client.Client.{Client}
use Rattle.nullcheck_lsp_top.specs.declared.client.Progress.{Progress}
use Rattle.nullcheck_lsp_top.specs.declared.client.Root.{Root}
use Rattle.nullcheck_lsp_top.specs.declared.messages.Task.{Task}
use Rattle.nullcheck_lsp_top.specs.Announcing.{able_behind, announces, begins, ends, next_behind, progress_with}
use Rattle.nullcheck_lsp_top.specs.Looking.{IsFound, Outside, StartsWhere, Traces, TracesFirst, root_or, told_root}
use Rattle.nullcheck_lsp_top.specs.Placing.{foreign_in, notices, placed}
use Rattle.nullcheck_lsp_top.specs.Reading.{shows}

-- ---- messages

-- the message that a frame is
abbrev pub IsMessageOf : Frame → Message → Type 0
IsMessageOf (frame.Body body) message = IsMessage body message
IsMessageOf frame.BadHeader message = message ≡ BadHeader
IsMessageOf frame.TooLarge message = message ≡ TooLarge

-- while the server serves, files are read after the messages that want it
abbrev pub looks : Phase → Message → Bool
looks Waiting m = false
looks Serving m = wants_folder m
looks ShutDown m = false
looks (Exited in_order) m = false

-- ---- one message

-- the workspace's files are read, and the server is told of them
pub record Looks (held : Option Holding) (old new : Outside) (before after : Client) (replies : List Reply) : Type 0 where
  pub files : List SourceFile
  pub news : List Reply
  pub found : IsFound held before.root old new files after.shown
  pub takes : Takes before.server (Folder files) news after.server
  pub root : after.root ≡ before.root
  pub said : after.said ≡ before.said
  pub progress : after.progress ≡ before.progress
  pub all : replies ≡ shows before.shown after.shown ++ news

abbrev pub LooksWhere : Bool → Option Holding → Outside → Outside → Client → Client → List Reply → Type 0
LooksWhere false held old new before after replies = (new ≡ old) × (after ≡ before) × (replies ≡ [])
LooksWhere true held old new before after replies = Looks held old new before after replies

-- the documents that a client has open
abbrev pub documents_of : Client → List SourceFile
documents_of client = client.server.workspace.documents

-- a message as the server takes it
abbrev pub taken_as : Client → Message → Message
taken_as client message = placed client.root (documents_of client) message

-- where the message says that the files are
abbrev pub told_by : Client → Message → Option Root
told_by client message = told_root client.server.phase client.root message

-- the document that a message opens, where it is none of the workspace's
abbrev pub foreign : Client → Message → Option (List ℕ)
foreign client message = foreign_in client.server.phase client.root (documents_of client) message

-- the check at the message is announced
abbrev pub announced : Client → Message → Bool
announced client message = announces client.server.phase client.server.workspace client.progress (taken_as client message)

-- what is sent before the message is worked on
abbrev pub begun : Client → Message → List Reply
begun client message = begins (announced client message) client.progress.next

-- what is sent after that
abbrev pub ended : Client → Message → List Reply
ended client message = ends (announced client message) client.progress.next

-- what the client is told of checks from then on
abbrev pub progress_behind : Client → Message → Progress
progress_behind client message = progress_with (able_behind client.server.phase client.progress.able message) (next_behind (announced client message) client.progress.next)

-- what is sent before the message is answered
abbrev pub noticed : Client → Message → List Reply
noticed client message = notices client.server.phase client.root (documents_of client) client.said message

-- where the message says where the files are, the folders are asked where they really are, and that is kept; the server takes the message as far as
-- it is about the workspace, and where files are to be read after it, those; where it is announced, this is said before all else, and at last that
-- it ended
pub record Hears (held : Option Holding) (old new : Outside) (before : Client) (message : Message) (replies : List Reply) (after : Client) : Type 0 where
  pub first : List Reply
  pub more : List Reply
  pub told : Option Root
  pub out : Outside
  pub traces : Traces (told_by before message) told old out
  pub mid : Client
  pub takes : Takes before.server (MessageEvent (taken_as before message)) first mid.server
  pub root : mid.root ≡ root_or told before.root
  pub shown : mid.shown ≡ before.shown
  pub said : mid.said ≡ (before.said || is_some (foreign before message))
  pub progress : mid.progress ≡ progress_behind before message
  pub behind : LooksWhere (looks before.server.phase (taken_as before message)) held out new mid after more
  pub all : replies ≡ begun before message ++ (noticed before message ++ ((first ++ more) ++ ended before message))

-- what is known of a message before it is worked on
pub record IsTask (client : Client) (message : Message) (task : Task) : Type 0 where
  pub taken : task.message ≡ taken_as client message
  pub told : task.told ≡ told_by client message
  pub looks : task.looks ≡ looks client.server.phase (taken_as client message)
  pub notices : task.notices.items ≡ noticed client message
  pub foreign : task.foreign ≡ is_some (foreign client message)
  pub announced : task.announced ≡ announced client message
  pub progress : task.progress ≡ progress_behind client message

-- what was asked of folders and files is what the message asks for, or the first of that
abbrev pub StartsBy : Option Holding → Outside → Outside → Client → Message → Type 0
StartsBy held old new before message =
    ((told : Option Root) × (out : Outside) × Traces (told_by before message) told old out
    × StartsWhere (looks before.server.phase (taken_as before message)) held (root_or told before.root) out new)
    ⊎ TracesFirst (told_by before message) old new

-- ---- frames

-- the replies as they are written, each in a frame, with links to the document of the codes where its address is given
abbrev pub written : Option (List ℕ) → Reply → List ℕ
written address reply = frame_of (compact_text (data_of address reply))

abbrev pub framed : Option (List ℕ) → List Reply → List ℕ
framed address replies = flat_map (written address) replies

-- frame by frame, these replies
abbrev pub HearsAll : Option Holding → Outside → Outside → Client → List Frame → List Reply → Client → Type 0
HearsAll held old new before [] replies after = (new ≡ old) × (replies ≡ []) × (after ≡ before)
HearsAll held old new before (frame ∷ frames) replies after =
    (mid : Outside) × (client : Client) × (message : Message) × (first : List Reply) × (rest : List Reply)
    × IsMessageOf frame message × Hears held old mid before message first client × (replies ≡ first ++ rest) × HearsAll held mid new client frames rest after

-- each request among the messages that frames are is answered once, in their order, and nothing else is
abbrev pub AnsweredOnce : List Frame → List Reply → Type 0
AnsweredOnce frames replies = (messages : List Message) × AllZip IsMessageOf frames messages × (ids_answered replies ≡ ids_asked (map MessageEvent messages))
