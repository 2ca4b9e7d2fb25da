use Rattle.std.proofs.Common.{◌≡◌, drop}
use Rattle.jn_lower_expr.specs.Passing.{begin}
use Rattle.jn_lower_expr.proofs.ways.begin.Given as goal

abbrev pub invariant-loop-way : goal.invariant-loop-way
invariant-loop-way l = begin (drop l.way-index l.ways) l.base ≡ begin l.ways l.base
