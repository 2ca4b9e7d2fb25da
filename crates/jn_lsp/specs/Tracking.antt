-- The versions of the documents that are open with one (Language Server Protocol 3.17, TextDocumentItem and VersionedTextDocumentIdentifier).
use Rattle.std.specs.Prelude.{ℕ, ℤ, ◌++◌, Bool, not, List, [], ◌∷◌, Option, Some, None, bytes_eq, filter, is_some, if◌then◌else◌}
use Rattle.jn_front.specs.declared.source.SourceFile.{SourceFile}
use Rattle.jn_lsp_text.specs.declared.message.Message.{Message}
use Rattle.jn_lsp_text.specs.declared.message.Message.TheVariants.{DidOpen, DidChange, DidClose}
use Rattle.jn_lsp.specs.declared.versions.Version.{Version}
use Rattle.jn_lsp.specs.Names.{is_among}
use Rattle.jn_lsp.specs.Unknown.{doubted_by}

-- it is that of the document of this name
abbrev pub is_of : List ℕ → Version → Bool
is_of name one = bytes_eq one.name name

-- the version of a name; none of one that isn't open with one
abbrev pub version_of : List Version → List ℕ → Option ℤ
version_of [] name = None
version_of (one ∷ versions) name = if is_of name one then Some one.number else version_of versions name

abbrev pub without_version : List ℕ → List Version → List Version
without_version name versions = filter (λ (one : Version). not (is_of name one)) versions

-- the name has this version now, where it has one
abbrev pub version_at : List ℕ → Option ℤ → List Version
version_at name None = []
version_at name (Some number) = record { name = name; number = number } ∷ []

abbrev pub with_version : List ℕ → Option ℤ → List Version → List Version
with_version name number versions = without_version name versions ++ version_at name number

-- a document that was opened without a version has none later on
abbrev pub renumbered : List ℕ → Option ℤ → List Version → List Version
renumbered name number versions = if is_some (version_of versions name) then with_version name number versions else versions

-- what a message says of them
abbrev pub versions_by : Message → List Version → List Version
versions_by (DidOpen name version text) versions = with_version name version versions
versions_by (DidChange name version changes) versions = renumbered name version versions
versions_by (DidClose name) versions = without_version name versions
versions_by _ versions = versions

abbrev pub without_versions : List (List ℕ) → List Version → List Version
without_versions names versions = filter (λ (one : Version). not (is_among names one.name)) versions

-- the versions after a message; of a text that it leaves open there is none
abbrev pub versions_behind : Message → List SourceFile → List Version → List Version
versions_behind m documents versions = versions_by m (without_versions (doubted_by m documents) versions)
