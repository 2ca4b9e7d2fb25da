use Rattle.std.proofs.Common.{refl}
use Rattle.jn_chain.proofs.Telling.{last_told, other_told}
use Rattle.jn_chain.proofs.shown.is_told.Goals as goal

pub returns-then-behind-eq0 : goal.returns-then-behind-eq0
returns-then-behind-eq0 c = last_told c.args.step c.args.behind _ c.if-behind-eq0.true refl

pub returns : goal.returns
returns c = other_told c.args.step c.args.behind c.is_slot.result c.if-behind-eq0.false c.is_slot.ensures
