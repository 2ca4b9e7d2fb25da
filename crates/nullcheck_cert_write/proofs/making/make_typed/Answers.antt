use Rattle.std.proofs.Common.{sym, subst}
use Rattle.jn_tables_law.specs.Inferable.{IsInferable}
use Rattle.jn_system.specs.Rows.{AreBroken}
use Rattle.nullcheck_cert_write.proofs.Solving.{none_broken}
use Rattle.nullcheck_cert_write.proofs.making.make_typed.Goals as goal

pub solve_sig-requires-clause-inferable : goal.solve_sig-requires-clause-inferable
solve_sig-requires-clause-inferable g c κs lives = subst IsInferable (sym c.indexed.ensures.is) (c.regular_programs_are_inferable.ensures.inferable c.args.base.now c.indexed.ensures.regular)

pub check_all-requires-clause-inferable : goal.check_all-requires-clause-inferable
check_all-requires-clause-inferable g c κs lives = subst IsInferable (sym c.indexed-2.ensures.is) (c.regular_programs_are_inferable.ensures.inferable c.args.base.now c.indexed-2.ensures.regular)

pub written-requires-clause-unbroken : goal.written-requires-clause-unbroken
written-requires-clause-unbroken g c =
    let sig = c.in_ok-sig.sig in
    let rows = c.in_ok-rows.rows.items in
    none_broken c.args.base.now sig rows (c.no_rows.ensures.none c.if-no_rows.true) (subst (λ P. AreBroken P sig rows) c.indexed-2.ensures.is c.in_ok-rows.ensures)
