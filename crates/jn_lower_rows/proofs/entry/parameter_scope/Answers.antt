use Rattle.std.proofs.Common.{◌∙◌, ◌-◌, [], refl, ap, sym, subst, arith}
use Rattle.jn_scopes.specs.Views.{scope_of}
use Rattle.jn_lower_rows.specs.Standing.{AllWithin}
use Rattle.jn_lower_rows.proofs.Declaring.{all_append}
use Rattle.jn_lower_rows.proofs.Wholes.{next_parameter}
use Rattle.jn_lower_rows.proofs.entry.parameter_scope.Goals as goal

pub loop-left-preserved : goal.loop-left-preserved
loop-left-preserved c = (
  omega (c.loop-left.invariant.0, arith),
  omega (c.loop-left.invariant.1, arith),
  ap (scope_of []) c.in_ok-put.ensures ∙ next_parameter c.args.parameters.now c.args.bases.now (c.loop-left.left - 1) c.loop-left.left c.index-parameters-left.result _ _ _ c.loop-left.scope c.parameter_of.result (omega (c.loop-left-test.true, arith)) (omega (c.loop-left-test.true, c.loop-left.invariant.0, arith)) (omega (c.loop-left-test.true, c.loop-left.invariant.1, arith)) c.index-parameters-left.is refl c.parameter_of.ensures.local c.loop-left.invariant.2,
  subst (AllWithin 0) (sym c.in_ok-put.ensures) (all_append 0 c.loop-left.scope c.parameter_of.result c.loop-left.invariant.3 c.parameter_of.ensures.within),
)
