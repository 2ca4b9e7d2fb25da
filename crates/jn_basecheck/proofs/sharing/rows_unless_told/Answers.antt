use Rattle.std.proofs.Common.{◌∙◌, sym}
use Rattle.jn_basecheck.proofs.Ranges.{no_rows_told}
use Rattle.jn_basecheck.proofs.sharing.rows_unless_told.Goals as goal

pub returns-then-is_told : goal.returns-then-is_told
returns-then-is_told c = no_rows_told c.args.program.now c.args.typed.now c.args.body c.new.result.items c.requires.typed (sym c.is_told.ensures ∙ c.if-is_told.true) c.new.ensures.items
