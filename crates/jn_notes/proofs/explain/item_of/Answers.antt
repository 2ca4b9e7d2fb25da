use Rattle.jn_sites.proofs.Nearing.{all_near}
use Rattle.jn_notes.proofs.explain.item_of.Goals as goal

pub slot_item-requires : goal.slot_item-requires
slot_item-requires c = record { overriders = all_near c.args.program.now c.args.row.span c.args.overriders.now c.requires.overriders }
