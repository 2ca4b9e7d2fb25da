-- Replies as JSON (JSON-RPC 2.0; Language Server Protocol 3.17). The members of an object stand in the order of their names' bytes.
use Rattle.std.specs.Prelude.{ℕ, ℤ, pos, neg_ℤ, ◌+◌, ◌++◌, true, false, List, [], ◌∷◌, Option, Some, None, codes, decimal, flat_map, map}
use Rattle.serde_json.specs.Data.{Data, null, boolean, number, string, array, object, unsigned, Members, no_members, member, no_items, item}
use Rattle.serde_json.specs.Find.{of_integer}
use Rattle.serde_json.specs.View.{items_of}
use Rattle.jn_base.specs.Codes.{code_name}
use Rattle.jn_base.specs.Messages.{code_cure, code_message}
use Rattle.jn_base.specs.declared.code.Code.{Code}
use Rattle.jn_lsp_text.specs.declared.encoding.Encoding.{Encoding}
use Rattle.jn_lsp_text.specs.declared.encoding.Encoding.TheVariants.{Utf16, Utf8}
use Rattle.jn_lsp_text.specs.declared.markup.Markup.{Markup}
use Rattle.jn_lsp_text.specs.declared.markup.Markup.TheVariants.{Plain, Markdown}
use Rattle.jn_lsp_text.specs.declared.position.Position.{Position}
use Rattle.jn_lsp_text.specs.declared.range.Range.{Range}
use Rattle.jn_lsp_text.specs.declared.id.Id.{Id}
use Rattle.jn_lsp_text.specs.declared.id.Id.TheVariants as id
use Rattle.jn_lsp_text.specs.declared.reply.Action.{Action}
use Rattle.jn_lsp_text.specs.declared.reply.Diagnostic.{Diagnostic}
use Rattle.jn_lsp_text.specs.declared.reply.Failure.{Failure}
use Rattle.jn_lsp_text.specs.declared.reply.Failure.TheVariants as failure
use Rattle.jn_lsp_text.specs.declared.reply.Hint.{Hint}
use Rattle.jn_lsp_text.specs.declared.reply.Hover.{Hover}
use Rattle.jn_lsp_text.specs.declared.reply.Insertion.{Insertion}
use Rattle.jn_lsp_text.specs.declared.reply.Related.{Related}
use Rattle.jn_lsp_text.specs.declared.reply.Said.{Said}
use Rattle.jn_lsp_text.specs.declared.reply.Said.TheVariants.{Row, Unchecked}
use Rattle.jn_lsp_text.specs.declared.reply.Reply.{Reply}
use Rattle.jn_lsp_text.specs.declared.reply.Reply.TheVariants as reply
use Rattle.jn_reporters.specs.Anchors.{code_anchor}
use Rattle.jn_lsp_messages.specs.Uris.{uri_of}

-- an object of one member, of two, and so on
abbrev pub one : List ℕ → Data → Members
one k d = member k d no_members

-- all items of a list as an array
abbrev pub list_data : {A : Type 0} → (A → Data) → List A → Data
list_data value xs = array (items_of (map value xs))

-- ---- places

unfoldable pub position_data : Position → Data
position_data p = object (member (codes "character") (number (unsigned p.character)) (one (codes "line") (number (unsigned p.line))))

unfoldable pub range_data : Range → Data
range_data r = object (member (codes "end") (position_data r.end) (one (codes "start") (position_data r.start)))

unfoldable pub location_data : List ℕ → Range → Data
location_data name range = object (member (codes "range") (range_data range) (one (codes "uri") (string (uri_of name))))

-- ---- diagnostics

unfoldable pub related_data : Related → Data
related_data r = object (member (codes "location") (location_data r.name r.range) (one (codes "message") (string r.words)))

-- what is wrong, and what to do about it
abbrev pub told : Code → List ℕ
told code = code_message code ++ codes "; cure: " ++ code_cure code

-- a link to the code's text, in the document of an address (CodeDescription)
unfoldable pub description_data : List ℕ → Code → Data
description_data address code = object (one (codes "href") (string (address ++ codes "#" ++ code_anchor code)))

-- where the address of the codes' document is known
abbrev pub described : Option (List ℕ) → Code → Members → Members
described None code ms = ms
described (Some address) code ms = member (codes "codeDescription") (description_data address code) ms

-- severity 1 is an error
unfoldable pub row_data : Option (List ℕ) → Code → Range → List Related → Data
row_data address code range related =
    object (member (codes "code") (string (code_name code))
    (described address code
    (member (codes "message") (string (told code))
    (member (codes "range") (range_data range)
    (member (codes "relatedInformation") (list_data related_data related)
    (member (codes "severity") (number (unsigned 1))
    (one (codes "source") (string (codes "nullcheck")))))))))

-- severity 3 is information
unfoldable pub unchecked_data : List ℕ → Range → List Related → Data
unchecked_data words range related =
    object (member (codes "message") (string words)
    (member (codes "range") (range_data range)
    (member (codes "relatedInformation") (list_data related_data related)
    (member (codes "severity") (number (unsigned 3))
    (one (codes "source") (string (codes "nullcheck")))))))

abbrev pub said_data : Option (List ℕ) → Range → List Related → Said → Data
said_data address range related (Row code) = row_data address code range related
said_data address range related (Unchecked words) = unchecked_data words range related

abbrev pub diagnostic_data : Option (List ℕ) → Diagnostic → Data
diagnostic_data address d = said_data address d.range d.related d.said

-- ---- code actions

-- an insertion replaces an empty range
unfoldable pub insertion_data : Insertion → Data
insertion_data i =
    object (member (codes "newText") (string i.text)
    (one (codes "range") (range_data (record { start = i.at; end = i.at }))))

-- a workspace edit of one file
unfoldable pub edit_data : List ℕ → List Insertion → Data
edit_data name insertions = object (one (codes "changes") (object (one (uri_of name) (list_data insertion_data insertions))))

-- with the diagnostics that it mends
unfoldable pub action_data : Option (List ℕ) → Action → Data
action_data address a =
    object (member (codes "diagnostics") (list_data (diagnostic_data address) a.diagnostics)
    (member (codes "edit") (edit_data a.name a.insertions)
    (member (codes "kind") (string (codes "quickfix"))
    (one (codes "title") (string a.title)))))

-- ---- places that tell why

-- the line on which a place begins, from 1 on
abbrev pub line_words : Related → List ℕ
line_words r = decimal (r.range.start.line + 1)

-- a place, and what it has to do with what is shown
abbrev pub place_words : Related → List ℕ
place_words r = r.words ++ codes " at " ++ r.name ++ codes ":" ++ line_words r

-- a place on a line of its own; in Markdown as an item of a list, with a link to the line
abbrev pub reason_words : Markup → Related → List ℕ
reason_words Plain r = codes "\n" ++ place_words r
reason_words Markdown r = codes "\n- " ++ r.words ++ codes " at [line " ++ line_words r ++ codes "](<" ++ uri_of r.name ++ codes "#L" ++ line_words r ++ codes ">)"

-- ---- inlay hints

-- places, each on a line of its own
abbrev pub tooltip_words : Related → List Related → List ℕ
tooltip_words r more = place_words r ++ flat_map (reason_words Plain) more

-- none where no place tells why
abbrev pub tooltip : List Related → Members
tooltip [] = no_members
tooltip (r ∷ more) = one (codes "tooltip") (string (tooltip_words r more))

-- kind 1 is that of a type
unfoldable pub hint_with : Members → Hint → Data
hint_with more h =
    object (member (codes "kind") (number (unsigned 1))
    (member (codes "label") (string h.label)
    (member (codes "paddingLeft") (boolean h.space_before)
    (member (codes "paddingRight") (boolean h.space_behind)
    (member (codes "position") (position_data h.at) more)))))

abbrev pub hint_data : Hint → Data
hint_data h = hint_with (tooltip h.related) h

-- ---- hovers

abbrev pub hover_words : Markup → Hover → List ℕ
hover_words markup h = h.words ++ flat_map (reason_words markup) h.related

abbrev pub kind_name : Markup → List ℕ
kind_name Plain = codes "plaintext"
kind_name Markdown = codes "markdown"

-- MarkupContent
unfoldable pub contents_data : Markup → Hover → Data
contents_data markup h = object (member (codes "kind") (string (kind_name markup)) (one (codes "value") (string (hover_words markup h))))

unfoldable pub hover_data : Markup → Hover → Data
hover_data markup h = object (member (codes "contents") (contents_data markup h) (one (codes "range") (range_data h.range)))

-- null where nothing is shown
abbrev pub hover_or_null : Markup → Option Hover → Data
hover_or_null markup None = null
hover_or_null markup (Some h) = hover_data markup h

-- ---- files that the client watches (client/registerCapability, DidChangeWatchedFilesRegistrationOptions)

-- those whose names end in `.java`
unfoldable pub watchers_data : Data
watchers_data = object (one (codes "watchers") (array (item (object (one (codes "globPattern") (string (codes "**/*.java")))) no_items)))

-- the client is to tell of them, as of a method of this server
unfoldable pub registration_data : Data
registration_data =
    object (member (codes "id") (string (codes "java-files"))
    (member (codes "method") (string (codes "workspace/didChangeWatchedFiles"))
    (one (codes "registerOptions") watchers_data)))

unfoldable pub registrations_data : Data
registrations_data = object (one (codes "registrations") (array (item registration_data no_items)))

-- ---- work that goes on (WorkDoneProgressCreateParams, ProgressParams)

-- its token is its number
unfoldable pub token_data : ℕ → Data
token_data n = object (one (codes "token") (number (unsigned n)))

-- files are checked, which can't be stopped (WorkDoneProgressBegin)
unfoldable pub begin_data : Data
begin_data =
    object (member (codes "cancellable") (boolean false)
    (member (codes "kind") (string (codes "begin"))
    (one (codes "title") (string (codes "nullcheck: checking")))))

-- they were (WorkDoneProgressEnd)
unfoldable pub end_data : Data
end_data = object (one (codes "kind") (string (codes "end")))

unfoldable pub progress_data : ℕ → Data → Data
progress_data n said = object (member (codes "token") (number (unsigned n)) (one (codes "value") said))

-- ---- what the server can do

-- changes come as ranges (TextDocumentSyncKind.Incremental is 2)
unfoldable pub sync_data : Data
sync_data = object (member (codes "change") (number (unsigned 2)) (member (codes "openClose") (boolean true) (one (codes "save") (boolean true))))

-- code actions are quick fixes (CodeActionOptions)
unfoldable pub kinds_data : Data
kinds_data = object (one (codes "codeActionKinds") (array (item (string (codes "quickfix")) no_items)))

-- a workspace may have several folders, and the client is to tell where they change (WorkspaceFoldersServerCapabilities)
unfoldable pub workspace_data : Data
workspace_data = object (one (codes "workspaceFolders") (object (member (codes "changeNotifications") (boolean true) (one (codes "supported") (boolean true)))))

-- PositionEncodingKind
abbrev pub encoding_name : Encoding → List ℕ
encoding_name Utf16 = codes "utf-16"
encoding_name Utf8 = codes "utf-8"

unfoldable pub capabilities_data : Encoding → Data
capabilities_data encoding =
    object (member (codes "codeActionProvider") kinds_data
    (member (codes "hoverProvider") (boolean true)
    (member (codes "inlayHintProvider") (boolean true)
    (member (codes "positionEncoding") (string (encoding_name encoding))
    (member (codes "textDocumentSync") sync_data
    (one (codes "workspace") workspace_data))))))

abbrev pub version : List ℕ
version = codes "0.1.0"

unfoldable pub server_data : Data
server_data = object (member (codes "name") (string (codes "nullcheck_lsp")) (one (codes "version") (string version)))

unfoldable pub initialize_data : Encoding → Data
initialize_data encoding = object (member (codes "capabilities") (capabilities_data encoding) (one (codes "serverInfo") server_data))

-- ---- refusals

-- the codes of errors (JSON-RPC 2.0, section 5.1; the protocol's ErrorCodes), below zero
abbrev pub failure_code : Failure → ℤ
failure_code failure.Parse = neg_ℤ (pos 32700)
failure_code failure.Request = neg_ℤ (pos 32600)
failure_code failure.Method = neg_ℤ (pos 32601)
failure_code failure.Params = neg_ℤ (pos 32602)
failure_code failure.NotInitialized = neg_ℤ (pos 32002)

abbrev pub failure_words : Failure → List ℕ
failure_words failure.Parse = codes "this is no JSON, or has no legal header"
failure_words failure.Request = codes "this is no request that can be taken now"
failure_words failure.Method = codes "this method isn't known"
failure_words failure.Params = codes "the parameters aren't as the protocol has them"
failure_words failure.NotInitialized = codes "initialize comes first"

unfoldable pub error_data : Failure → Data
error_data f = object (member (codes "code") (number (of_integer (failure_code f))) (one (codes "message") (string (failure_words f))))

-- ---- messages

abbrev pub id_data : Id → Data
id_data (id.Number n) = number (of_integer n)
id_data (id.Text text) = string text

-- null where no id was read (JSON-RPC 2.0, section 5)
abbrev pub id_or_null : Option Id → Data
id_or_null None = null
id_or_null (Some i) = id_data i

unfoldable pub answer_data : Id → Data → Data
answer_data i result = object (member (codes "id") (id_data i) (member (codes "jsonrpc") (string (codes "2.0")) (one (codes "result") result)))

unfoldable pub refusal_data : Option Id → Failure → Data
refusal_data i f = object (member (codes "error") (error_data f) (member (codes "id") (id_or_null i) (one (codes "jsonrpc") (string (codes "2.0")))))

-- a request of the server's
unfoldable pub request_data : Id → List ℕ → Data → Data
request_data i method params =
    object (member (codes "id") (id_data i)
    (member (codes "jsonrpc") (string (codes "2.0")) (member (codes "method") (string method) (one (codes "params") params))))

unfoldable pub notice_data : List ℕ → Data → Data
notice_data method params =
    object (member (codes "jsonrpc") (string (codes "2.0")) (member (codes "method") (string method) (one (codes "params") params)))

-- the version of the text, where it has one
abbrev pub versioned : Option ℤ → Members
versioned None = no_members
versioned (Some version) = one (codes "version") (number (of_integer version))

unfoldable pub published_data : Option (List ℕ) → List ℕ → Option ℤ → List Diagnostic → Data
published_data address name version diagnostics =
    object (member (codes "diagnostics") (list_data (diagnostic_data address) diagnostics) (member (codes "uri") (string (uri_of name)) (versioned version)))

-- type 2 is a warning
unfoldable pub shown_data : List ℕ → Data
shown_data words = object (member (codes "message") (string words) (one (codes "type") (number (unsigned 2))))

-- what a reply is as JSON, with links to the codes' texts where the address of their document is given
abbrev pub data_of : Option (List ℕ) → Reply → Data
data_of address (reply.Capabilities i encoding) = answer_data i (initialize_data encoding)
data_of address (reply.Done i) = answer_data i null
data_of address (reply.Refusal i f) = refusal_data i f
data_of address (reply.Publish name version diagnostics) = notice_data (codes "textDocument/publishDiagnostics") (published_data address name version diagnostics)
data_of address (reply.Show words) = notice_data (codes "window/showMessage") (shown_data words)
data_of address reply.Watch = request_data (id.Text (codes "watch")) (codes "client/registerCapability") registrations_data
data_of address (reply.Actions i actions) = answer_data i (list_data (action_data address) actions)
data_of address (reply.Hints i hints) = answer_data i (list_data hint_data hints)
data_of address (reply.Hovered i markup hover) = answer_data i (hover_or_null markup hover)
data_of address (reply.Announce n) = request_data (id.Number (pos n)) (codes "window/workDoneProgress/create") (token_data n)
data_of address (reply.Begin n) = notice_data (codes "$/progress") (progress_data n begin_data)
data_of address (reply.End n) = notice_data (codes "$/progress") (progress_data n end_data)
