use Rattle.std.proofs.Common.{◌≡◌, ℕ, ◌<◌, false}
use Rattle.jn_annotate.specs.Annotated.{has_taken_word}
use Rattle.jn_annotate.proofs.taken.first_with_word.Given as goal

abbrev pub invariant-loop-slot : goal.invariant-loop-slot
invariant-loop-slot l = (j : ℕ) → j < l.slot → has_taken_word l.imports l.taken l.said.slots l.program l.sig j ≡ false
