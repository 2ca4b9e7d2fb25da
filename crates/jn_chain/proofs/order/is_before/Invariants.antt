use Rattle.std.proofs.Common.{◌≡◌, drop}
use Rattle.jn_reasons_law.specs.Choice.{is_before}
use Rattle.jn_chain.proofs.order.is_before.Given as goal

abbrev pub invariant-loop-i : goal.invariant-loop-i
invariant-loop-i l = is_before (drop l.i l.xs) (drop l.i l.ys) ≡ is_before l.xs l.ys
