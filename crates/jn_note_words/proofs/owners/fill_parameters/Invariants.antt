use Rattle.jn_note_words.specs.Owned.{Filled, by_parameter, first_below}
use Rattle.jn_note_words.proofs.owners.fill_parameters.Given as goal

abbrev pub invariant-loop-i : goal.invariant-loop-i
invariant-loop-i l = Filled l.fn.owners l.owners (λ k. first_below (by_parameter k l.method l.slots) l.i)
