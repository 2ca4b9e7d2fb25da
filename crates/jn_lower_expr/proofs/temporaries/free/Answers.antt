use Rattle.std.proofs.Common.{sym, arith, ◌∙◌}
use Rattle.jn_points.specs.declared.point.BaseType.TheVariants.{Int}
use Rattle.jn_lower_expr.proofs.Passing.{first_found, one_passed, passes_none}
use Rattle.jn_lower_expr.proofs.temporaries.free.Goals as goal

pub returns-then-is_free-clause-is : goal.returns-then-is_free-clause-is
returns-then-is_free-clause-is c = first_found Int c.loop-place.place c.args.bases.now c.args.taken.now c.args.base c.loop-place.invariant (omega arith) (sym c.is_free.ensures ∙ c.if-is_free.true)

pub loop-place-preserved : goal.loop-place-preserved
loop-place-preserved c = one_passed Int c.loop-place.place c.args.bases.now c.args.taken.now c.args.base c.loop-place.invariant (omega arith) (sym c.is_free.ensures ∙ c.if-is_free.false)

pub returns-clause-is : goal.returns-clause-is
returns-clause-is c = sym (passes_none 0 c.loop-place.place c.args.bases.now c.args.taken.now c.args.base c.loop-place.invariant (omega (arith, c.loop-place-test.false)))
