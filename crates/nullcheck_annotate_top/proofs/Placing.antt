-- Where faults stand.
use Rattle.std.proofs.Common.{◌≡◌, ℕ, zero, suc, ◌<◌, ◌≤◌, List, [], ◌∷◌, length, Some, None, refl, sym, ap, arith}
use Rattle.std.specs.Prelude.{get_or, slice_get}
use Rattle.jn_front.specs.declared.source.SourceRead.{SourceRead}
use Rattle.jn_front.specs.Files.{files_of_reads}

pub file_at : (reads : List SourceRead) (i : ℕ) (d read : SourceRead) → i < length reads → read ≡ get_or reads i d → slice_get (files_of_reads reads) i ≡ Some read.file
file_at [] i d read lt is = absurd (omega (arith, lt))
file_at (x ∷ xs) zero d read lt is = ap (λ (r : SourceRead). Some r.file) (sym is)
file_at (x ∷ xs) (suc i) d read lt is = file_at xs i d read (omega (arith, lt)) is

pub no_file_at : (reads : List SourceRead) (i : ℕ) → length reads ≤ i → slice_get (files_of_reads reads) i ≡ None
no_file_at [] i le = refl
no_file_at (x ∷ xs) zero le = absurd (omega (arith, le))
no_file_at (x ∷ xs) (suc i) le = no_file_at xs i (omega (arith, le))
