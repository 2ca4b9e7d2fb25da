use Rattle.std.proofs.Common.{◌≡◌, drop}
use Rattle.jn_points.specs.Members.{some_of}
use Rattle.jn_annotate.specs.Taken as spec
use Rattle.jn_annotate.proofs.taken.is_of_receiver.Given as goal

abbrev pub invariant-loop-method : goal.invariant-loop-method
invariant-loop-method l = some_of (spec.is_of_receiver l.slot) l.methods ≡ some_of (spec.is_of_receiver l.slot) (drop l.method-index l.methods)
