use Rattle.std.proofs.Common.{◌≡◌, drop}
use Rattle.jn_points.specs.Members.{some_of}
use Rattle.jn_sigs.specs.Signature.{is_slot}
use Rattle.nullcheck_annotate_top.proofs.faults.is_among.Given as goal

abbrev pub invariant-loop-one : goal.invariant-loop-one
invariant-loop-one l = some_of (is_slot l.slot) l.has ≡ some_of (is_slot l.slot) (drop l.one-index l.has)
