use Rattle.jn_notes.proofs.Firsts.{item_is_first}
use Rattle.jn_notes.proofs.found.register_item_at.Goals as goal

pub returns-in-Some : goal.returns-in-Some
returns-in-Some c = item_is_first c.args.placed.now.basis.program.now c.args.placed.now.basis.sig.now c.args.sought c.args.placed.now.basis.tables.now c.args.placed.now.sites.now _ _ c.args.placed.now.kept c.in-Some.ensures c.first_item.ensures
