-- Files as they stand: those of the folder with the texts of the documents that are open, and the open documents beyond.
use Rattle.std.specs.Prelude.{ℕ, ◌+◌, Bool, not, List, [], ◌∷◌, ◌++◌, Option, Some, None, filter, length, map, nat_le, replicate, if◌then◌else◌}
use Rattle.std.specs.List.{list_any}
use Rattle.jn_front.specs.declared.source.SourceFile.{SourceFile}
use Rattle.jn_front.specs.Files.{file_limit}
use Rattle.jn_recheck.specs.Files.{file_at, is_named, place_of}

unfoldable pub spaces : ℕ → List ℕ
spaces n = replicate n 32

-- the text that stands for these bytes: of more than a file may have spaces, one more than it may, so that its row is that of the limit
abbrev pub fitted : List ℕ → List ℕ
fitted bytes = if nat_le (length bytes) file_limit then bytes else spaces (file_limit + 1)

abbrev pub document_or : Option SourceFile → SourceFile → SourceFile
document_or None file = file
document_or (Some document) file = document

-- the open document of this name
abbrev pub document_of : List ℕ → List SourceFile → Option SourceFile
document_of name documents = file_at (place_of name documents) documents

-- a file with the text of its open document; without one with its own
abbrev pub standing : List SourceFile → SourceFile → SourceFile
standing documents file = record { name = file.name; bytes = fitted (document_or (document_of file.name documents) file).bytes }

-- those of other names
abbrev pub others : List ℕ → List SourceFile → List SourceFile
others name files = filter (λ file. not (is_named name file)) files

-- the first of each name
abbrev pub firsts : List SourceFile → List SourceFile
firsts [] = []
firsts (file ∷ files) = file ∷ others file.name (firsts files)

abbrev pub has_name : List ℕ → List SourceFile → Bool
has_name name files = list_any (is_named name) files

-- a file more, where none has its name
abbrev pub with_new : List SourceFile → SourceFile → List SourceFile
with_new files file = if has_name file.name files then files else files ++ file ∷ []

-- the folder's files in their order, then the open documents of other names in theirs
abbrev pub stand : List SourceFile → List SourceFile → List SourceFile
stand disk documents = firsts (map (standing documents) (disk ++ documents))
