use Rattle.jn_basecheck.specs.Rows.{AreRowsOf}
use Rattle.jn_basecheck.proofs.sharing.put_together.Given as goal

abbrev pub invariant-loop-body : goal.invariant-loop-body
invariant-loop-body l = AreRowsOf l.program 0 l.body l.rows.items
