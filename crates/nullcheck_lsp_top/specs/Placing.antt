-- Which documents are of the workspace: each that is open already, each file of this host in its folders that isn't left out, and each that the
-- settings name.
use Rattle.std.specs.Prelude.{ℕ, ◌&&◌, ◌||◌, Bool, true, false, List, [], ◌∷◌, ◌++◌, Option, Some, None, codes, is_some, map, option_map, if◌then◌else◌}
use Rattle.std.specs.List.{list_any}
use Rattle.jn_folder.specs.Listing.{each_once, is_among, joined}
use Rattle.jn_folder.specs.Plain.{is_below, is_whole, plain, rehomed}
use Rattle.jn_front.specs.declared.source.SourceFile.{SourceFile}
use Rattle.jn_lsp.specs.Stand.{has_name}
use Rattle.jn_lsp.specs.declared.phase.Phase.{Phase}
use Rattle.jn_lsp.specs.declared.phase.Phase.TheVariants.{Waiting, Serving, ShutDown, Exited}
use Rattle.jn_lsp_text.specs.declared.message.Message.{Message}
use Rattle.jn_lsp_text.specs.declared.message.Message.TheVariants.{Initialize, Initialized, DidOpen, DidChange, DidSave, DidClose, WatchedFiles, ChangedFolders, CodeAction, InlayHint, Hover, Shutdown, Exit, Ignored, Unknown, BadDocument, BadParams, NoMessage, NoJson, BadHeader, TooLarge}
use Rattle.jn_lsp_text.specs.declared.reply.Reply.{Reply}
use Rattle.jn_lsp_text.specs.declared.reply.Reply.TheVariants.{Show, Watch}
use Rattle.nullcheck_lsp_top.specs.declared.client.Home.{Home}
use Rattle.nullcheck_lsp_top.specs.declared.client.Root.{Root}

-- ---- names

-- the path of the first folder
abbrev pub first_path : List Home → Option (List ℕ)
first_path [] = None
first_path (home ∷ homes) = Some home.path

-- the plain path of a file that the settings name: in the folder, where it isn't whole
abbrev pub path_in : Option (List ℕ) → List ℕ → List ℕ
path_in None name = name
path_in (Some folder) name = if is_whole name then name else joined folder name

abbrev pub named_path : Option (List ℕ) → List ℕ → List ℕ
named_path folder name = plain (path_in folder name)

-- those of all that they name, each once
abbrev pub named_paths : Option (List ℕ) → List (List ℕ) → List (List ℕ)
named_paths folder names = each_once (map (named_path folder) names)

-- the files that the settings name, in the first folder where they aren't whole
abbrev pub files_named : Root → List (List ℕ)
files_named root = named_paths (first_path root.folders) root.files

-- ---- documents

-- a plain path lies in one of the folders, where there are any
abbrev pub is_below_any : List (List ℕ) → List Home → List ℕ → Bool
is_below_any skipped homes path = list_any (λ (home : Home). is_below skipped home.path path) homes

abbrev pub is_in_folders : List (List ℕ) → List Home → List ℕ → Bool
is_in_folders skipped [] path = is_whole path
is_in_folders skipped (home ∷ homes) path = is_below_any skipped (home ∷ homes) path

abbrev pub is_of : Root → List ℕ → Bool
is_of root path = is_among (files_named root) path || is_in_folders root.exclude root.folders path

abbrev pub if_of : Root → List ℕ → Option (List ℕ)
if_of root path = if is_of root path then Some path else None

-- a plain path in the place where a folder really is, as it is below the folder
abbrev pub homed_by : List ℕ → Option (List ℕ) → List ℕ → List ℕ
homed_by folder None path = path
homed_by folder (Some real) path = rehomed folder real path

abbrev pub homed : Home → List ℕ → List ℕ
homed home path = homed_by home.path home.real path

abbrev pub or_homed : Option (List ℕ) → Option (List ℕ) → Option (List ℕ)
or_homed None other = other
or_homed (Some path) other = Some path

-- a plain path as it is below the first of these folders of which it is so one of the workspace's
abbrev pub homed_in : Root → List Home → List ℕ → Option (List ℕ)
homed_in root [] path = None
homed_in root (home ∷ homes) path = or_homed (if_of root (homed home path)) (homed_in root homes path)

-- a path that is one of the workspace's, as it is or below a folder
abbrev pub listed_path : Root → List ℕ → Option (List ℕ)
listed_path root path = or_homed (if_of root path) (homed_in root root.folders path)

-- the path, where a document is open by it
abbrev pub if_open : List SourceFile → List ℕ → Option (List ℕ)
if_open documents path = if has_name path documents then Some path else None

-- a plain path as it is below the first of these folders below which a document is open by it
abbrev pub open_in : List SourceFile → List Home → List ℕ → Option (List ℕ)
open_in documents [] path = None
open_in documents (home ∷ homes) path = or_homed (if_open documents (homed home path)) (open_in documents homes path)

-- the path by which a document is open already: as it is or below a folder, also one that was taken out of the workspace since
abbrev pub open_path : Root → List SourceFile → List ℕ → Option (List ℕ)
open_path root documents path = or_homed (if_open documents path) (or_homed (open_in documents root.folders path) (open_in documents root.left path))

abbrev pub placed_path : Root → List SourceFile → List ℕ → Option (List ℕ)
placed_path root documents path = or_homed (open_path root documents path) (listed_path root path)

-- the name by which a document is open or one of the workspace's; a name that is no path, as that of another scheme or host, is none
abbrev pub placed_name : Root → List SourceFile → List ℕ → Option (List ℕ)
placed_name root documents name = placed_path root documents (plain name)

abbrev pub or_same : Option (List ℕ) → List ℕ → List ℕ
or_same None name = name
or_same (Some placed) name = placed

abbrev pub or_ignored : Option Message → Message
or_ignored None = Ignored
or_ignored (Some m) = m

-- a message as the server takes it: documents by the names of the workspace's files, and nothing of others
abbrev pub placed : Root → List SourceFile → Message → Message
placed root documents (Initialize id folders infer files exclude markup encoding progress) = Initialize id folders infer files exclude markup encoding progress
placed root documents Initialized = Initialized
placed root documents (DidOpen name version text) = or_ignored (option_map (λ n. DidOpen n version text) (placed_name root documents name))
placed root documents (DidChange name version changes) = or_ignored (option_map (λ n. DidChange n version changes) (placed_name root documents name))
placed root documents (DidSave name) = DidSave name
placed root documents (DidClose name) = or_ignored (option_map DidClose (placed_name root documents name))
placed root documents WatchedFiles = WatchedFiles
placed root documents (ChangedFolders added removed) = ChangedFolders added removed
placed root documents (CodeAction id name range) = CodeAction id (or_same (placed_name root documents name) name) range
placed root documents (InlayHint id name range) = InlayHint id (or_same (placed_name root documents name) name) range
placed root documents (Hover id name position) = Hover id (or_same (placed_name root documents name) name) position
placed root documents (Shutdown id) = Shutdown id
placed root documents Exit = Exit
placed root documents Ignored = Ignored
placed root documents (Unknown id) = Unknown id
placed root documents (BadDocument name) = or_ignored (option_map BadDocument (placed_name root documents name))
placed root documents (BadParams id) = BadParams id
placed root documents NoMessage = NoMessage
placed root documents NoJson = NoJson
placed root documents BadHeader = BadHeader
placed root documents TooLarge = TooLarge

-- ---- what is asked of the client

abbrev pub is_initialized : Message → Bool
is_initialized Initialized = true
is_initialized _ = false

-- it is asked to tell of files that change, where it says that it can, when it is initialized (client/registerCapability)
abbrev pub is_asked : Phase → Root → Message → Bool
is_asked Waiting root m = false
is_asked Serving root m = is_initialized m && root.watched
is_asked ShutDown root m = false
is_asked (Exited in_order) root m = false

abbrev pub asks : Bool → List Reply
asks false = []
asks true = Watch ∷ []

-- ---- what is said of others

-- the document that a message opens, where it is none of the workspace's
abbrev pub foreign_by : Root → List SourceFile → Message → Option (List ℕ)
foreign_by root documents (DidOpen name version text) = if is_some (placed_name root documents name) then None else Some name
foreign_by root documents _ = None

abbrev pub foreign_in : Phase → Root → List SourceFile → Message → Option (List ℕ)
foreign_in Waiting root documents _ = None
foreign_in Serving root documents m = foreign_by root documents m
foreign_in ShutDown root documents _ = None
foreign_in (Exited in_order) root documents _ = None

abbrev pub foreign_words : List ℕ → List ℕ
foreign_words name = codes "nullcheck: " ++ name ++ codes ": this document is none of the workspace's files, so it isn't checked, nor are others like it"

-- of the first one that is opened this is said
abbrev pub says : Bool → Option (List ℕ) → List Reply
says said None = []
says true (Some name) = []
says false (Some name) = Show (foreign_words name) ∷ []

-- what is sent before a message is answered
abbrev pub notices : Phase → Root → List SourceFile → Bool → Message → List Reply
notices phase root documents said m = asks (is_asked phase root m) ++ says said (foreign_in phase root documents m)
