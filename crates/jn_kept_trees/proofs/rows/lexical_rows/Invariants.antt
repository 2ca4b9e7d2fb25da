use Rattle.std.proofs.Common.{◌≡◌, ◌++◌, drop}
use Rattle.jn_kept_trees.specs.Fresh.{lexical_rows}
use Rattle.jn_kept_trees.proofs.rows.lexical_rows.Given as goal

abbrev pub invariant-fresh : goal.invariant-fresh
invariant-fresh l = lexical_rows l.fresh ≡ l.rows.items ++ lexical_rows (drop l.one-index l.fresh)
