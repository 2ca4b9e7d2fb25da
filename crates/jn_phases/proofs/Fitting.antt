-- How many files were read.
use Rattle.std.proofs.Common.{◌≡◌, suc, ◌<◌, ◌≤◌, List, [], ◌∷◌, length, map, refl, ap, arith}
use Rattle.std.specs.Prelude.{string_bytes}
use Rattle.std.specs.declared.string.String.{String}
use Rattle.std.specs.declared.alloc.Global.{Global}
use Rattle.std.proofs.lemmas.List.{length-map}
use Rattle.jn_front.specs.declared.source.SourceFile.{SourceFile}
use Rattle.jn_front.specs.declared.source.SourceRead.{SourceRead}
use Rattle.jn_front.specs.Files.{AreReads, names_of, most_files}

-- as many as there are names
as_many_reads : (reads : List SourceRead) (files : List SourceFile) → AreReads reads files → length reads ≡ length (names_of files)
as_many_reads [] [] are = refl
as_many_reads [] (file ∷ files) are = absurd are
as_many_reads (read ∷ reads) [] are = absurd are
as_many_reads (read ∷ reads) (file ∷ files) are = ap suc (as_many_reads reads files are.1)

-- at most so many were read
pub few_reads : (words : List (String Global)) (reads : List SourceRead) (files : List SourceFile) → length words ≤ most_files → names_of files ≡ map string_bytes words → AreReads reads files → length reads ≤ most_files
few_reads words reads files le named are =
    let many = as_many_reads reads files are in
    let same = ap length named in
    let long = length-map words string_bytes in
    omega (arith, many, same, long, le)

pub many_names : (words : List (String Global)) → most_files < length words → most_files < length (map string_bytes words)
many_names words lt = let long = length-map words string_bytes in omega (arith, long, lt)
