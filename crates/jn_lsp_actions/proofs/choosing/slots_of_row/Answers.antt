use Rattle.std.proofs.Common.{sym, ◌∙◌}
use Rattle.jn_notes.proofs.Standing.{row_stands}
use Rattle.jn_lsp_actions.proofs.choosing.slots_of_row.Goals as goal

pub slots_from-requires : goal.slots_from-requires
slots_from-requires c =
    let v = c.args.lexed.now.traced.now in
    record { stands = row_stands v.sig v.tables v.program c.args.row c.in-Some.item (sym c.item_of.ensures ∙ c.in-Some.is) }
