use Rattle.std.proofs.Common.{drop}
use Rattle.jn_annotate.proofs.Sharing.{Least}
use Rattle.jn_annotate.proofs.shared.least.Given as goal

abbrev pub invariant-loop-slot : goal.invariant-loop-slot
invariant-loop-slot l = Least l.slots l.found (drop l.slot-index l.rest)
