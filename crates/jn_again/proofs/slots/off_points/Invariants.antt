use Rattle.std.proofs.Common.{refl}
use Rattle.std.specs.Prelude.{slice_index}
use Rattle.jn_recheck_law.specs.RuleReads.{kind_slots, points_slots}
use Rattle.jn_again.proofs.Clear.{LeftClear}
use Rattle.jn_again.proofs.slots.off_points.Given as goal

abbrev pub invariant-loop-at : goal.invariant-loop-at
invariant-loop-at l = LeftClear (slice_index l.bits) (points_slots l.program) (λ pt. kind_slots l.program pt.kind) (λ x xs. refl) l.points l.at
