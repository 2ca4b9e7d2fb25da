-- The outcomes of all files, in their order.
use Rattle.std.proofs.Common.{◌≡◌, ℕ, suc, ◌+◌, ◌<◌, Some, List, [], ◌∷◌, length, get_or, sym, subst, arith}
use Rattle.std.specs.Prelude.{slice_get}
use Rattle.jn_front.specs.declared.source.SourceRead.{SourceRead}
use Rattle.jn_front.specs.declared.outcome.Outcome.{Outcome}
use Rattle.jn_front.specs.Files.{files_of_reads}
use Rattle.jn_front.specs.Outcomes.{IsOutcome, IsOutcomeOf, AreOutcomes}

same_read : (read other : SourceRead) → Some read ≡ Some other → read ≡ other
same_read read other e = cc

-- files that have their outcomes one by one have them all; the first of them has the number k
all_outcomes : (k : ℕ) (reads : List SourceRead) (outcomes : List Outcome) → length outcomes ≡ length reads → ((n : ℕ) (d : Outcome) → n < length reads → (read : SourceRead) × (slice_get reads n ≡ Some read) × IsOutcome (k + n) read.file (get_or outcomes n d)) → AreOutcomes k (files_of_reads reads) outcomes
all_outcomes k [] [] many each = tt
all_outcomes k [] (outcome ∷ outcomes) many each = absurd (omega (arith, many))
all_outcomes k (read ∷ reads) [] many each = absurd (omega (arith, many))
all_outcomes k (read ∷ reads) (outcome ∷ outcomes) many each =
    let first = each 0 outcome (omega arith) in
    let number : k + 0 ≡ k = omega arith in
    let is : IsOutcome k read.file outcome = subst (λ n. IsOutcome n read.file outcome) number (subst (λ (r : SourceRead). IsOutcome (k + 0) r.file outcome) (sym (same_read read first.0 first.1)) first.2) in
    let rest : (n : ℕ) (d : Outcome) → n < length reads → (other : SourceRead) × (slice_get reads n ≡ Some other) × IsOutcome (k + 1 + n) other.file (get_or outcomes n d) = λ n d lt.
    let one = each (suc n) d (omega (arith, lt)) in
    let next : k + suc n ≡ k + 1 + n = omega arith in
    (one.0, one.1, subst (λ m. IsOutcome m one.0.file (get_or outcomes n d)) next one.2) in
    (is, all_outcomes (k + 1) reads outcomes (omega (arith, many)) rest)

pub outcomes_of_all : (reads : List SourceRead) (outcomes : List Outcome) → length outcomes ≡ length reads → ((n : ℕ) (d : Outcome) → n < length reads → IsOutcomeOf reads n (get_or outcomes n d)) → AreOutcomes 0 (files_of_reads reads) outcomes
outcomes_of_all reads outcomes many each = all_outcomes 0 reads outcomes many (λ n d lt.
    let one = each n d lt in
    let same : n ≡ 0 + n = omega arith in
    (one.0, one.1, subst (λ m. IsOutcome m one.0.file (get_or outcomes n d)) same one.2))
