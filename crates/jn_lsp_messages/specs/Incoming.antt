-- Which message a body is (JSON-RPC 2.0; Language Server Protocol 3.17). Members of a message are found by their paths (RFC 6901).
use Rattle.std.specs.Prelude.{ℕ, ℤ, ◌^◌, ◌≡◌, ◌⊎◌, ◌||◌, Bool, false, List, [], ◌∷◌, Option, Some, None, IsUtf8, bytes_eq, codes, is_some, nat_lt, option_and_then, option_map, option_to_list, if◌then◌else◌}
use Rattle.serde_json.specs.Data.{Data, Items, no_items, item}
use Rattle.serde_json.specs.Find.{as_array, as_bool, as_i64, as_null, as_number, as_str, as_u64, get, pointer}
use Rattle.serde_json.specs.Read.{read}
use Rattle.jn_lsp_text.specs.Choices.{choice_named}
use Rattle.jn_lsp_text.specs.declared.choice.Choice.{Choice}
use Rattle.jn_lsp_text.specs.declared.choice.Choice.TheVariants.{Unsaid, Wrong}
use Rattle.jn_lsp_text.specs.declared.encoding.Encoding.{Encoding}
use Rattle.jn_lsp_text.specs.declared.encoding.Encoding.TheVariants.{Utf16, Utf8}
use Rattle.jn_lsp_text.specs.declared.folders.Folders.{Folders}
use Rattle.jn_lsp_text.specs.declared.markup.Markup.{Markup}
use Rattle.jn_lsp_text.specs.declared.markup.Markup.TheVariants.{Plain, Markdown}
use Rattle.jn_lsp_text.specs.declared.position.Position.{Position}
use Rattle.jn_lsp_text.specs.declared.range.Range.{Range}
use Rattle.jn_lsp_text.specs.declared.id.Id.{Id}
use Rattle.jn_lsp_text.specs.declared.id.Id.TheVariants as id
use Rattle.jn_lsp_text.specs.declared.message.Change.{Change}
use Rattle.jn_lsp_text.specs.declared.message.Change.TheVariants.{Whole, Part}
use Rattle.jn_lsp_text.specs.declared.message.Message.{Message}
use Rattle.jn_lsp_text.specs.declared.message.Message.TheVariants as message
use Rattle.jn_lsp_messages.specs.declared.method.Method.{Method}
use Rattle.jn_lsp_messages.specs.declared.method.Method.TheVariants.{Initialize, Initialized, DidOpen, DidChange, DidSave, DidClose, WatchedFiles, ChangedFolders, CodeAction, InlayHint, Hover, Shutdown, Exit, Other}
use Rattle.jn_lsp_messages.specs.Methods.{method_of}
use Rattle.jn_lsp_messages.specs.Uris.{name_of, or_other}

-- the text of a member, and the text at a path
abbrev pub text_in : List ℕ → Data → Option (List ℕ)
text_in name d = option_and_then as_str (get name d)

abbrev pub text_at : List ℕ → Data → Option (List ℕ)
text_at path d = option_and_then as_str (pointer path d)

-- the values of all items, where each has one
abbrev pub all_of : {A : Type 0} → (Data → Option A) → Items → Option (List A)
all_of value no_items = Some []
all_of value (item d ds) = option_and_then (λ x. option_map (λ xs. x ∷ xs) (all_of value ds)) (value d)

-- ---- positions

-- a uinteger: a whole number from 0 to 2^31 - 1
abbrev pub small : ℕ → Option ℕ
small n = if nat_lt n (2 ^ 31) then Some n else None

abbrev pub uinteger : Data → Option ℕ
uinteger d = option_and_then small (option_and_then as_u64 (as_number d))

abbrev pub uinteger_in : List ℕ → Data → Option ℕ
uinteger_in name d = option_and_then uinteger (get name d)

abbrev pub position_in : Data → Option Position
position_in d =
    option_and_then (λ line. option_map (λ character. record { line = line; character = character })
    (uinteger_in (codes "character") d)) (uinteger_in (codes "line") d)

abbrev pub range_in : Data → Option Range
range_in d =
    option_and_then (λ start. option_map (λ end. record { start = start; end = end })
    (option_and_then position_in (get (codes "end") d))) (option_and_then position_in (get (codes "start") d))

-- ---- parameters of methods

-- the name that the URI at a path stands for
abbrev pub name_at : List ℕ → Data → Option (List ℕ)
name_at path d = option_map name_of (text_at path d)

-- the document that the parameters are about: its name, its text, and a range of it
unfoldable pub document_name : Data → Option (List ℕ)
document_name d = name_at (codes "/params/textDocument/uri") d

unfoldable pub document_text : Data → Option (List ℕ)
document_text d = text_at (codes "/params/textDocument/text") d

-- a whole number, as the version of a text is
abbrev pub integer : Data → Option ℤ
integer d = option_and_then as_i64 (as_number d)

unfoldable pub document_version : Data → Option ℤ
document_version d = option_and_then integer (pointer (codes "/params/textDocument/version") d)

unfoldable pub named_range : Data → Option Range
named_range d = option_and_then range_in (pointer (codes "/params/range") d)

unfoldable pub named_position : Data → Option Position
named_position d = option_and_then position_in (pointer (codes "/params/position") d)

-- a change: of the whole text where no range is named
abbrev pub change_of : List ℕ → Option Data → Option Change
change_of text None = Some (Whole text)
change_of text (Some range) = option_map (λ r. Part r text) (range_in range)

abbrev pub change_in : Data → Option Change
change_in d = option_and_then (λ text. change_of text (get (codes "range") d)) (text_in (codes "text") d)

abbrev pub all_changes : Data → Option (List Change)
all_changes d = option_and_then (all_of change_in) (as_array d)

unfoldable pub changes_in : Data → Option (List Change)
changes_in d = option_and_then all_changes (pointer (codes "/params/contentChanges") d)

-- the values of an array's items; these where none is given, or null
abbrev pub all_values : {A : Type 0} → (Data → Option A) → Data → Option (List A)
all_values value d = option_and_then (all_of value) (as_array d)

abbrev pub values_or : {A : Type 0} → (Data → Option A) → List A → Option Data → Option (List A)
values_or value usual None = Some usual
values_or value usual (Some d) = if is_some (as_null d) then Some usual else all_values value d

-- the workspace's folders: those of workspaceFolders, else that of rootUri, else of rootPath
unfoldable pub root_path : Data → Option (List ℕ)
root_path d = text_at (codes "/params/rootPath") d

unfoldable pub root_in : Data → Option (List ℕ)
root_in d = or_other (name_at (codes "/params/rootUri") d) (root_path d)

-- the path of a folder of the workspace (WorkspaceFolder)
abbrev pub path_in : Data → Option (List ℕ)
path_in d = option_map name_of (text_in (codes "uri") d)

unfoldable pub paths_in : Data → Option (List (List ℕ))
paths_in d = values_or path_in [] (pointer (codes "/params/workspaceFolders") d)

abbrev pub or_root : Option (List ℕ) → List (List ℕ) → List (List ℕ)
or_root root [] = option_to_list root
or_root root (path ∷ paths) = path ∷ paths

-- whether the client watches files where it is asked to
abbrev pub is_true : Option Bool → Bool
is_true None = false
is_true (Some b) = b

unfoldable pub watched_in : Data → Bool
watched_in d = is_true (option_and_then as_bool (pointer (codes "/params/capabilities/workspace/didChangeWatchedFiles/dynamicRegistration") d))

abbrev pub folders_of : Data → List (List ℕ) → Folders
folders_of d paths = record { paths = or_root (root_in d) paths; watched = watched_in d }

unfoldable pub folders_in : Data → Option Folders
folders_in d = option_map (folders_of d) (paths_in d)

-- the folders that are in the workspace from now on, and those that are no longer (WorkspaceFoldersChangeEvent)
unfoldable pub added_in : Data → Option (List (List ℕ))
added_in d = option_and_then (all_values path_in) (pointer (codes "/params/event/added") d)

unfoldable pub removed_in : Data → Option (List (List ℕ))
removed_in d = option_and_then (all_values path_in) (pointer (codes "/params/event/removed") d)

-- the members that are inferred by the settings; what is no text says none
abbrev pub choice_by : Option (List ℕ) → Choice
choice_by None = Wrong
choice_by (Some name) = choice_named name

abbrev pub choice_or : Option Data → Choice
choice_or None = Unsaid
choice_or (Some d) = if is_some (as_null d) then Unsaid else choice_by (as_str d)

unfoldable pub infer_in : Data → Choice
infer_in d = choice_or (pointer (codes "/params/initializationOptions/infer") d)

-- names of files by the settings
unfoldable pub files_in : Data → Option (List (List ℕ))
files_in d = values_or as_str [] (pointer (codes "/params/initializationOptions/files") d)

-- names of folders that are left out: by the settings, else those in which tools put what they make or fetch
abbrev pub usual_exclude : List (List ℕ)
usual_exclude = codes "target" ∷ codes "build" ∷ codes "node_modules" ∷ codes "out" ∷ []

unfoldable pub exclude_in : Data → Option (List (List ℕ))
exclude_in d = values_or as_str usual_exclude (pointer (codes "/params/initializationOptions/exclude") d)

-- a word is among the texts of an array
abbrev pub is_word : List ℕ → Option (List ℕ) → Bool
is_word word None = false
is_word word (Some text) = bytes_eq text word

abbrev pub has_word : List ℕ → Items → Bool
has_word word no_items = false
has_word word (item d ds) = is_word word (as_str d) || has_word word ds

abbrev pub offers : List ℕ → Option Items → Bool
offers word None = false
offers word (Some items) = has_word word items

-- the same of the array at a path
abbrev pub offers_at : List ℕ → List ℕ → Data → Bool
offers_at path word d = offers word (option_and_then as_array (pointer path d))

-- how the client shows what stands at a position: in Markdown, where that is among the forms that it names
unfoldable pub markup_in : Data → Markup
markup_in d = if offers_at (codes "/params/capabilities/textDocument/hover/contentFormat") (codes "markdown") d then Markdown else Plain

-- the unit of positions: UTF-8, where that is among those which the client offers; else UTF-16, which every client takes
unfoldable pub encoding_in : Data → Encoding
encoding_in d = if offers_at (codes "/params/capabilities/general/positionEncodings") (codes "utf-8") d then Utf8 else Utf16

-- the client shows that work goes on, where the server announces it
unfoldable pub progress_in : Data → Bool
progress_in d = is_true (option_and_then as_bool (pointer (codes "/params/capabilities/window/workDoneProgress") d))

-- ---- messages

-- the message, where the parameters have their form
abbrev pub or_bad : Option Id → Option Message → Message
or_bad id None = message.BadParams id
or_bad id (Some m) = m

-- that of a document which is named; else it can't be said which one it is about
abbrev pub or_unread : List ℕ → Option Message → Message
or_unread name None = message.BadDocument name
or_unread name (Some m) = m

abbrev pub about : (List ℕ → Option Message) → Option (List ℕ) → Message
about m None = message.BadParams None
about m (Some name) = or_unread name (m name)

abbrev pub opened : Data → Message
opened d = about (λ name. option_map (message.DidOpen name (document_version d)) (document_text d)) (document_name d)

abbrev pub changed : Data → Message
changed d = about (λ name. option_map (message.DidChange name (document_version d)) (changes_in d)) (document_name d)

abbrev pub changed_folders : Data → Option Message
changed_folders d = option_and_then (λ added. option_map (message.ChangedFolders added) (removed_in d)) (added_in d)

abbrev pub asked_start : Id → Data → Option Message
asked_start id d =
    option_and_then (λ folders. option_and_then (λ files. option_map (λ exclude. message.Initialize id folders (infer_in d) files exclude (markup_in d) (encoding_in d) (progress_in d))
    (exclude_in d)) (files_in d)) (folders_in d)

abbrev pub asked_actions : Id → Data → Option Message
asked_actions id d = option_and_then (λ name. option_map (message.CodeAction id name) (named_range d)) (document_name d)

abbrev pub asked_hints : Id → Data → Option Message
asked_hints id d = option_and_then (λ name. option_map (message.InlayHint id name) (named_range d)) (document_name d)

abbrev pub asked_hover : Id → Data → Option Message
asked_hover id d = option_and_then (λ name. option_map (message.Hover id name) (named_position d)) (document_name d)

abbrev pub notification : Method → Data → Message
notification Initialized d = message.Initialized
notification DidOpen d = opened d
notification DidChange d = changed d
notification DidSave d = or_bad None (option_map message.DidSave (document_name d))
notification DidClose d = or_bad None (option_map message.DidClose (document_name d))
notification WatchedFiles d = message.WatchedFiles
notification ChangedFolders d = or_bad None (changed_folders d)
notification Exit d = message.Exit
notification Initialize d = message.Ignored
notification CodeAction d = message.Ignored
notification InlayHint d = message.Ignored
notification Hover d = message.Ignored
notification Shutdown d = message.Ignored
notification Other d = message.Ignored

abbrev pub request : Method → Id → Data → Message
request Initialize id d = or_bad (Some id) (asked_start id d)
request CodeAction id d = or_bad (Some id) (asked_actions id d)
request InlayHint id d = or_bad (Some id) (asked_hints id d)
request Hover id d = or_bad (Some id) (asked_hover id d)
request Shutdown id d = message.Shutdown id
request Initialized id d = message.Unknown id
request DidOpen id d = message.Unknown id
request DidChange id d = message.Unknown id
request DidSave id d = message.Unknown id
request DidClose id d = message.Unknown id
request WatchedFiles id d = message.Unknown id
request ChangedFolders id d = message.Unknown id
request Exit id d = message.Unknown id
request Other id d = message.Unknown id

-- a message without a method is a response where it has a result or an error
abbrev pub response : Data → Message
response d = if is_some (get (codes "result") d) || is_some (get (codes "error") d) then message.Ignored else message.NoMessage

-- an id is a whole number or a text
abbrev pub id_of : Data → Option Id
id_of d = or_other (option_map id.Number (option_and_then as_i64 (as_number d))) (option_map id.Text (as_str d))

abbrev pub without_id : Option (List ℕ) → Data → Message
without_id None d = response d
without_id (Some method) d = notification (method_of method) d

abbrev pub with_id : Option Id → Option (List ℕ) → Data → Message
with_id None method d = message.NoMessage
with_id (Some id) None d = response d
with_id (Some id) (Some method) d = request (method_of method) id d

abbrev pub by_id : Option Data → Data → Message
by_id None d = without_id (text_in (codes "method") d) d
by_id (Some id) d = with_id (id_of id) (text_in (codes "method") d) d

abbrev pub is_version : Option (List ℕ) → Bool
is_version None = false
is_version (Some version) = bytes_eq version (codes "2.0")

-- the message that JSON is: none where it isn't of version 2.0
unfoldable pub message_of : Data → Message
message_of d = if is_version (text_in (codes "jsonrpc") d) then by_id (get (codes "id") d) d else message.NoMessage

-- which message a body is; JSON is UTF-8 (RFC 8259, section 8.1)
abbrev pub IsJson : List ℕ → Data → Type 0
IsJson body d = IsUtf8 body × (read body ≡ Some d)

abbrev pub IsNoJson : List ℕ → Type 0
IsNoJson body = IsUtf8 body → read body ≡ None

abbrev pub IsMessage : List ℕ → Message → Type 0
IsMessage body m = ((d : Data) × IsJson body d × (m ≡ message_of d)) ⊎ (IsNoJson body × (m ≡ message.NoJson))
