-- What messages make of the documents that a client has open (Language Server Protocol 3.17, "Text Document Synchronization").
use Rattle.std.specs.Prelude.{ℕ, ◌≡◌, Bool, List, [], ◌∷◌, Option, Some, None, codes, nat_eq, if◌then◌else◌}
use Rattle.std.specs.List.{ends_with}
use Rattle.jn_front.specs.declared.source.SourceFile.{SourceFile}
use Rattle.jn_lsp_text.specs.Ranges.{IsReplaced}
use Rattle.jn_lsp_text.specs.declared.encoding.Encoding.{Encoding}
use Rattle.jn_lsp_text.specs.declared.message.Change.{Change}
use Rattle.jn_lsp_text.specs.declared.message.Change.TheVariants.{Whole, Part}
use Rattle.jn_lsp_text.specs.declared.message.Message.{Message}
use Rattle.jn_lsp_text.specs.declared.message.Message.TheVariants.{Initialize, Initialized, DidOpen, DidChange, DidSave, DidClose, WatchedFiles, ChangedFolders, CodeAction, InlayHint, Hover, Shutdown, Exit, Ignored, Unknown, BadDocument, BadParams, NoMessage, NoJson, BadHeader, TooLarge}
use Rattle.jn_recheck.specs.Files.{with_file, without_file}
use Rattle.jn_lsp.specs.Names.{is_among}
use Rattle.jn_lsp.specs.Stand.{document_of}

-- ---- texts

-- a text after a change
abbrev pub IsChanged : Encoding → Change → List ℕ → List ℕ → Type 0
IsChanged encoding (Whole new) text made = made ≡ new
IsChanged encoding (Part range new) text made = IsReplaced encoding text range new made

-- a text after changes, each of the text after the one before
abbrev pub AreChanged : Encoding → List Change → List ℕ → List ℕ → Type 0
AreChanged encoding [] text made = made ≡ text
AreChanged encoding (change ∷ changes) text made = (mid : List ℕ) × IsChanged encoding change text mid × AreChanged encoding changes mid made

-- ---- documents

-- the name is that of a Java file
abbrev pub is_java : List ℕ → Bool
is_java name = ends_with nat_eq name (codes ".java")

-- the name gets its text; names that don't end in `.java` are none of the server's
abbrev pub opened : List ℕ → List ℕ → List SourceFile → Option (List SourceFile)
opened name text documents = if is_java name then Some (with_file name text documents) else None

-- the open document of a name, where its text is known
abbrev pub known_document : List (List ℕ) → List ℕ → List SourceFile → Option SourceFile
known_document unknown name documents = if is_among unknown name then None else document_of name documents

-- the open document gets the text after the changes; a document that isn't open, or whose text isn't known, has none
abbrev pub IsTyped : Encoding → List ℕ → List Change → List SourceFile → Option SourceFile → Option (List SourceFile) → Type 0
IsTyped encoding name changes documents None after = after ≡ None
IsTyped encoding name changes documents (Some document) after = (text : List ℕ) × AreChanged encoding changes document.bytes text × (after ≡ Some (with_file name text documents))

abbrev pub closed_as : List ℕ → List SourceFile → Option SourceFile → Option (List SourceFile)
closed_as name documents None = None
closed_as name documents (Some document) = Some (without_file name documents)

-- the open document is open no more
abbrev pub closed : List ℕ → List SourceFile → Option (List SourceFile)
closed name documents = closed_as name documents (document_of name documents)

-- the open documents after a message, in the order in which they were opened; none where it doesn't change them
abbrev pub AreEdited : Encoding → List (List ℕ) → Message → List SourceFile → Option (List SourceFile) → Type 0
AreEdited encoding unknown (DidOpen name version text) documents after = after ≡ opened name text documents
AreEdited encoding unknown (DidChange name version changes) documents after = IsTyped encoding name changes documents (known_document unknown name documents) after
AreEdited encoding unknown (DidClose name) documents after = after ≡ closed name documents
AreEdited encoding unknown (Initialize id folders infer files exclude markup other progress) documents after = after ≡ None
AreEdited encoding unknown Initialized documents after = after ≡ None
AreEdited encoding unknown (DidSave name) documents after = after ≡ None
AreEdited encoding unknown WatchedFiles documents after = after ≡ None
AreEdited encoding unknown (ChangedFolders added removed) documents after = after ≡ None
AreEdited encoding unknown (CodeAction id name range) documents after = after ≡ None
AreEdited encoding unknown (InlayHint id name range) documents after = after ≡ None
AreEdited encoding unknown (Hover id name position) documents after = after ≡ None
AreEdited encoding unknown (Shutdown id) documents after = after ≡ None
AreEdited encoding unknown Exit documents after = after ≡ None
AreEdited encoding unknown Ignored documents after = after ≡ None
AreEdited encoding unknown (Unknown id) documents after = after ≡ None
AreEdited encoding unknown (BadDocument name) documents after = after ≡ None
AreEdited encoding unknown (BadParams id) documents after = after ≡ None
AreEdited encoding unknown NoMessage documents after = after ≡ None
AreEdited encoding unknown NoJson documents after = after ≡ None
AreEdited encoding unknown BadHeader documents after = after ≡ None
AreEdited encoding unknown TooLarge documents after = after ≡ None
