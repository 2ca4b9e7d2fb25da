use Rattle.std.proofs.Common.{◌≡◌, ◌++◌, drop}
use Rattle.jn_front.specs.Outcomes.{syntax_rows}
use Rattle.jn_front.proofs.gathering.syntax_rows.Given as goal

abbrev pub invariant-outcomes : goal.invariant-outcomes
invariant-outcomes l = syntax_rows l.outcomes ≡ l.rows.items ++ syntax_rows (drop l.outcome-index l.outcomes)
