-- The rows of the limits on files.
use Rattle.std.specs.Prelude.{ℕ, ◌+◌, min, nat_lt, nat_le, List, [], ◌∷◌, ◌++◌, length, map, cond, ◌&&◌}
use Rattle.jn_base.specs.declared.place.Row.{Row}
use Rattle.jn_base.specs.declared.code.Code.{Code}
use Rattle.jn_base.specs.declared.code.Code.TheVariants.{B1, B2, B3}
use Rattle.jn_front.specs.declared.source.SourceFile.{SourceFile}
use Rattle.jn_front.specs.Files.{file_limit, most_files}

-- bytes of all files, where a file that is too large counts as one byte more than the limit
abbrev pub all_limit : ℕ
all_limit = 4194304

-- a row at the first byte of a file
abbrev pub row_at : ℕ → Code → Row
row_at file code = record { span = record { file = record { 0 = file }; from = 0; to = 0 }; code = code }

-- how many bytes a file counts: all of its own, but at most one more than the limit
abbrev pub counted : SourceFile → ℕ
counted file = min (length file.bytes) (file_limit + 1)

-- a file that is too large
abbrev pub large_row : ℕ → ℕ → List Row
large_row k size = cond (nat_lt file_limit size) (row_at k B2 ∷ []) []

-- the first file with which the files are too large together
abbrev pub passing_row : ℕ → ℕ → ℕ → List Row
passing_row k before size = cond (nat_le before all_limit && nat_lt all_limit (before + size)) (row_at k B3 ∷ []) []

-- the rows of files of these sizes from the k-th on, before which there are so many bytes
abbrev pub size_rows : ℕ → ℕ → List ℕ → List Row
size_rows k before [] = []
size_rows k before (size ∷ sizes) = large_row k size ++ (passing_row k before size ++ size_rows (k + 1) (before + size) sizes)

-- too many files, else files that are too large
abbrev pub limit_rows : List SourceFile → List Row
limit_rows files = cond (nat_lt most_files (length files)) (row_at most_files B1 ∷ []) (size_rows 0 0 (map counted files))
