use Rattle.std.proofs.Common.{◌≡◌, drop}
use Rattle.nullcheck_annotate_top.specs.Parts.{parameter_with}
use Rattle.nullcheck_annotate_top.proofs.parts.parameter_with.Given as goal

abbrev pub invariant-loop-at : goal.invariant-loop-at
invariant-loop-at l = parameter_with l.slot 0 l.slots ≡ parameter_with l.slot l.at (drop l.at l.slots)
