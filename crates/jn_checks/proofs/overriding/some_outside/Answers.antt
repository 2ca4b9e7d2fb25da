use Rattle.std.proofs.Common.{◌≤◌, ⊎_elim, inl, inr, length, arith}
use Rattle.jn_checks.proofs.Pairs.{outside_end}
use Rattle.jn_checks.proofs.overriding.some_outside.Goals as goal

pub returns : goal.returns
returns c =
    outside_end c.args.sig.now c.args.under.now c.args.over.now c.loop-i.i c.loop-i.some _
    (⊎_elim (λ (h : length c.args.under.now ≤ c.least-i-end.result). inl (omega (arith, h, c.loop-i-test.false))) (λ (h : length c.args.over.now ≤ c.least-i-end.result). inr (omega (arith, h, c.loop-i-test.false))) c.least-i-end.ensures.one)
    c.loop-i.invariant
