use Rattle.std.proofs.Common.{◌≡◌}
use Rattle.std.specs.Prelude.{filter}
use Rattle.jn_points.specs.Members.{below}
use Rattle.jn_annotate.specs.Annotated.{has_no_spelling}
use Rattle.jn_annotate.proofs.refusals.unspelled_slots.Given as goal

abbrev pub invariant-loop-slot : goal.invariant-loop-slot
invariant-loop-slot l = l.left.items ≡ filter (has_no_spelling l.program l.sig) (below l.slot)
