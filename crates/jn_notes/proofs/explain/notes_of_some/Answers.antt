use Rattle.std.proofs.Common.{sym, subst}
use Rattle.jn_points.specs.declared.program.Program.{Program}
use Rattle.jn_origins.specs.Standing.{AreSized}
use Rattle.jn_notes.specs.Noted.{AreLeastTables}
use Rattle.jn_notes.proofs.explain.notes_of_some.Goals as goal

pub new-requires-clause-sized : goal.new-requires-clause-sized
new-requires-clause-sized c =
    let P = c.args.program.now in
    let s = c.args.sig.now in
    let ts = c.in_ok-tables.tables.items in
    let solved : AreLeastTables P s ts = subst (λ (Q : Program). AreLeastTables Q s ts) c.program.ensures c.in_ok-tables.ensures in
    subst (AreSized P) (sym c.deref.ensures.value) (c.least_tables_are_sized.ensures P s ts c.requires.inferable solved.least)
