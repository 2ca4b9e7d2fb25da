use Rattle.std.proofs.Common.{refl, sym, ◌∙◌}
use Rattle.jn_recheck_law.specs.RuleReads.{kind_slots, points_slots}
use Rattle.jn_reuse.proofs.Agreeing.{never, one_differs, one_gone}
use Rattle.jn_reuse.proofs.slots.on_points.Goals as goal

pub returns-then-not-on_point : goal.returns-then-not-on_point
returns-then-not-on_point c = one_differs c.args.one.now c.args.other.now (points_slots c.args.program.now) (λ pt. kind_slots c.args.program.now pt.kind) (λ x xs. refl) c.args.points.now c.index-points-at.result c.loop-at.at c.loop-at-test.true c.loop-at.invariant (λ a. never (sym c.if-not-on_point.true ∙ c.on_point.ensures.1 a))

pub loop-at-preserved : goal.loop-at-preserved
loop-at-preserved c = one_gone c.args.one.now c.args.other.now (points_slots c.args.program.now) (λ pt. kind_slots c.args.program.now pt.kind) (λ x xs. refl) c.args.points.now c.index-points-at.result c.loop-at.at c.loop-at-test.true c.loop-at.invariant (c.on_point.ensures.0 c.if-not-on_point.false)
