use Rattle.std.proofs.Common.{refl, sym, ◌∙◌}
use Rattle.std.specs.Prelude.{slice_index}
use Rattle.jn_recheck_law.specs.RuleReads.{kind_slots, points_slots}
use Rattle.jn_again.proofs.Clear.{never, one_differs, one_gone}
use Rattle.jn_again.proofs.slots.off_points.Goals as goal

pub returns-then-not-off_point : goal.returns-then-not-off_point
returns-then-not-off_point c = one_differs (slice_index c.args.bits.now) (points_slots c.args.program.now) (λ pt. kind_slots c.args.program.now pt.kind) (λ x xs. refl) c.args.points.now c.index-points-at.result c.loop-at.at c.loop-at-test.true c.loop-at.invariant (λ a. never (sym c.if-not-off_point.true ∙ c.off_point.ensures.1 a))

pub loop-at-preserved : goal.loop-at-preserved
loop-at-preserved c = one_gone (slice_index c.args.bits.now) (points_slots c.args.program.now) (λ pt. kind_slots c.args.program.now pt.kind) (λ x xs. refl) c.args.points.now c.index-points-at.result c.loop-at.at c.loop-at-test.true c.loop-at.invariant (c.off_point.ensures.0 c.if-not-off_point.false)
