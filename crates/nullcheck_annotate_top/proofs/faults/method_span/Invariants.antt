use Rattle.std.proofs.Common.{◌≡◌, drop}
use Rattle.nullcheck_annotate_top.specs.Places.{method_span}
use Rattle.nullcheck_annotate_top.proofs.faults.method_span.Given as goal

abbrev pub invariant-loop-method : goal.invariant-loop-method
invariant-loop-method l = method_span l.slot l.methods ≡ method_span l.slot (drop l.method-index l.methods)
