use Rattle.std.proofs.Common.{◌≡◌, map, take}
use Rattle.nullcheck_annotate_top.specs.Study.{left_at}
use Rattle.nullcheck_annotate_top.proofs.study.lefts.Given as goal

abbrev pub invariant-loop-slot : goal.invariant-loop-slot
invariant-loop-slot l = l.left.items ≡ map (left_at l.program) (take l.slot-index l.slots)
