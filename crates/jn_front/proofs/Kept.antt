-- What is kept of a file that was read.
use Rattle.std.proofs.Common.{◌≡◌, ℕ, ◌+◌, ◌<◌, ◌≤◌, Bool, true, false, List, [], ◌∷◌, length, inl, inr, refl, arith}
use Rattle.std.specs.Prelude.{cond, replicate}
use Rattle.std.proofs.lemmas.List.{length-replicate}
use Rattle.jn_front.specs.declared.source.SourceFile.{SourceFile}
use Rattle.jn_front.specs.declared.source.SourceRead.{SourceRead}
use Rattle.jn_front.specs.Files.{AreReads, IsReadOf, file_limit}

-- no bytes beyond the limit
pub read_fits : (read : SourceRead) → length read.file.bytes ≤ 1048576
read_fits read = case read.whole read.kept
  where
    case : (whole : Bool) → length read.file.bytes ≤ cond whole 1048576 0 → length read.file.bytes ≤ 1048576
    case true le = le
    case false le = omega (arith, le)

none : (bytes : List ℕ) → length bytes ≤ 0 → bytes ≡ []
none [] le = refl
none (byte ∷ bytes) le = absurd (omega (arith, le))

abbrev spaces : ℕ → List ℕ
spaces n = replicate n 0

longer : (n : ℕ) → file_limit < n → file_limit < length (spaces n)
longer n lt = let long : length (spaces n) ≡ n = length-replicate n 0 in omega (arith, long, lt)

-- of a file that isn't whole any longer one may have been read
read_of_one : (read : SourceRead) → (file : SourceFile) × IsReadOf read file
read_of_one read = case read.whole refl read.kept
  where
    case : (whole : Bool) → read.whole ≡ whole → length read.file.bytes ≤ cond whole 1048576 0 → (file : SourceFile) × IsReadOf read file
    case true is le = (read.file, inl (is, refl, le))
    case false is le = (
      record { name = read.file.name; bytes = spaces (file_limit + 1) },
      inr (is, (λ i. record { name = read.file.name; bytes = none read.file.bytes le i }), longer (file_limit + 1) (omega arith)),
    )

pub read_from : (reads : List SourceRead) → (files : List SourceFile) × AreReads reads files
read_from [] = ([], tt)
read_from (read ∷ reads) =
    let one = read_of_one read in
    let more = read_from reads in
    (one.0 ∷ more.0, (one.1, more.1))
