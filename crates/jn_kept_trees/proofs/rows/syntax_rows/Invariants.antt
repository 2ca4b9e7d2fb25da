use Rattle.std.proofs.Common.{◌≡◌, ◌++◌, drop}
use Rattle.jn_kept_trees.specs.Fresh.{syntax_rows}
use Rattle.jn_kept_trees.proofs.rows.syntax_rows.Given as goal

abbrev pub invariant-fresh : goal.invariant-fresh
invariant-fresh l = syntax_rows l.fresh ≡ l.rows.items ++ syntax_rows (drop l.one-index l.fresh)
