use Rattle.std.proofs.Common.{◌≡◌, ◌++◌, drop}
use Rattle.jn_front.specs.Outcomes.{lexical_rows}
use Rattle.jn_front.proofs.gathering.lexical_rows.Given as goal

abbrev pub invariant-outcomes : goal.invariant-outcomes
invariant-outcomes l = lexical_rows l.outcomes ≡ l.rows.items ++ lexical_rows (drop l.outcome-index l.outcomes)
