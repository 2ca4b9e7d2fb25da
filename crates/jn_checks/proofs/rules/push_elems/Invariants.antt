use Rattle.std.proofs.Common.{◌≡◌, ◌++◌, drop}
use Rattle.jn_transfer.specs.Rules.{elems_rows}
use Rattle.jn_checks.proofs.rules.push_elems.Given as goal

abbrev pub invariant-loop-value : goal.invariant-loop-value
invariant-loop-value l = l.rows.items ++ elems_rows l.env l.base (drop l.value-index l.values) ≡ l.fn.rows.items ++ elems_rows l.env l.base l.values
