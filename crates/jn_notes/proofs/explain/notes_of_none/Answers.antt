use Rattle.jn_notes.proofs.Noting.{of_no_rows}
use Rattle.jn_notes.proofs.explain.notes_of_none.Goals as goal

pub returns : goal.returns
returns c =
    let P = c.args.program.now in
    let s = c.args.sig.now in
    of_no_rows P c.args.names.now s c.args.rows.now c.new.result.items c.requires.inferable (c.rounds_give_the_least_table.ensures.exists P s) c.requires.none c.new.ensures.items
