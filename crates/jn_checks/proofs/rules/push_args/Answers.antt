use Rattle.std.proofs.Common.{◌≤◌, ⊎_elim, inl, inr, length, arith}
use Rattle.jn_checks.proofs.Steps.{args_end}
use Rattle.jn_checks.proofs.rules.push_args.Goals as goal

pub returns : goal.returns
returns c =
    args_end c.args.env.now c.args.sig.now c.args.slots.now c.args.args.now c.loop-i.i c.loop-i.rows.items _
    (⊎_elim (λ (h : length c.args.slots.now ≤ c.least-i-end.result). inl (omega (arith, h, c.loop-i-test.false))) (λ (h : length c.args.args.now ≤ c.least-i-end.result). inr (omega (arith, h, c.loop-i-test.false))) c.least-i-end.ensures.one)
    c.loop-i.invariant
