use Rattle.std.proofs.Common.{◌≡◌, ◌++◌, drop, map}
use Rattle.jn_limits.specs.Large.{AllNarrow, code, facts_of}
use Rattle.jn_limits.proofs.limits.fact_codes.Given as goal

abbrev pub invariant-loop-point : goal.invariant-loop-point
invariant-loop-point l = (l.codes.items ++ map code (facts_of l.program l.body.locals (drop l.point-index l.points)) ≡ map code (facts_of l.program l.body.locals l.points)) × (AllNarrow (facts_of l.program l.body.locals (drop l.point-index l.points)) → AllNarrow (facts_of l.program l.body.locals l.points))
