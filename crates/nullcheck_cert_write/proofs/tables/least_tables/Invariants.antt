use Rattle.nullcheck_cert_write.proofs.Solving.{AreFirst}
use Rattle.nullcheck_cert_write.proofs.tables.least_tables.Given as goal

abbrev pub invariant-loop-body : goal.invariant-loop-body
invariant-loop-body l = AreFirst l.program l.sig l.body l.tables.items
