use Rattle.std.proofs.Common.{◌≤◌, ◌<◌, length, arith, sym, subst, refl}
use Rattle.jn_diag.specs.Sweep.{IsPosition}
use Rattle.jn_diag.proofs.Sweeping.{step_is, line_few, column_few}
use Rattle.jn_diag.proofs.sweep.swept.Goals as goal

pub stepped-position-requires-clause-line : goal.stepped-position-requires-clause-line
stepped-position-requires-clause-line c =
    let few = line_few c.args.text.now c.loop-position.position c.loop-position.invariant.0 in
    omega (arith, few, c.loop-position-test.true, c.requires.small)

pub stepped-position-requires-clause-column : goal.stepped-position-requires-clause-column
stepped-position-requires-clause-column c =
    let few = column_few c.args.text.now c.loop-position.position c.loop-position.invariant.0 in
    omega (arith, few, c.loop-position-test.true, c.requires.small)

pub loop-position-preserved : goal.loop-position-preserved
loop-position-preserved c =
    let is = c.loop-position.invariant.0 in
    let lt : c.loop-position.position.before < length c.args.text.now = omega (arith, c.loop-position-test.true, c.requires.within) in (
      subst (IsPosition c.args.text.now) (sym c.stepped-position.ensures) (step_is c.args.text.now c.loop-position.position c.byte_before-previous.result _ is lt c.byte_before-previous.ensures refl),
      subst (λ p. p.before ≤ c.args.to) (sym c.stepped-position.ensures) (omega (arith, c.loop-position-test.true)),
    )
