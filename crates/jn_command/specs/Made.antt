-- The program that a command makes in place of files.
use Rattle.std.specs.Prelude.{ℕ, Bool, zero, suc, ◌++◌, List, [], length, codes, decimal, if◌then◌else◌}
use Rattle.jn_gen.specs.Generated.{program_lines, text_of}
use Rattle.jn_front.specs.declared.source.SourceFile.{SourceFile}

-- the text of the made program of so many classes
abbrev pub made_text : ℕ → List ℕ
made_text classes = text_of (program_lines classes)

-- a made text as a source file, which no disk need have
abbrev pub made_file : List ℕ → SourceFile
made_file text = record { name = codes "Gen.java"; bytes = text }

-- the line that says how many classes and how many bytes were made
abbrev pub size_line : ℕ → ℕ → List ℕ
size_line classes size = codes "generated " ++ decimal classes ++ codes " classes, " ++ decimal size ++ codes " bytes\n"

-- before a report that is one document no line stands
abbrev pub made_line : Bool → ℕ → ℕ → List ℕ
made_line document classes size = if document then [] else size_line classes size

-- what stands before a report: nothing, or how large the program is that was made
abbrev pub front_of : Bool → ℕ → List ℕ
front_of document zero = []
front_of document (suc n) = made_line document (suc n) (length (made_text (suc n)))
