use Rattle.std.proofs.Common.{◌≡◌, ◌++◌, drop}
use Rattle.jn_annotate.specs.Chosen.{chosen_from}
use Rattle.jn_annotate.proofs.chosen.chosen_slots.Given as goal

abbrev pub invariant-loop-at : goal.invariant-loop-at
invariant-loop-at l = l.made ++ chosen_from l.terse l.sig l.at (drop l.at l.slots) ≡ chosen_from l.terse l.sig 0 l.slots
