use Rattle.std.proofs.Common.{◌≡◌, drop}
use Rattle.nullcheck_annotate_top.specs.Parts.{part_of_methods}
use Rattle.nullcheck_annotate_top.proofs.parts.part_of_methods.Given as goal

abbrev pub invariant-loop-method : goal.invariant-loop-method
invariant-loop-method l = part_of_methods l.slot l.methods ≡ part_of_methods l.slot (drop l.method-index l.methods)
