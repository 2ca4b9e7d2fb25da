use Rattle.std.proofs.Common.{◌∙◌}
use Rattle.jn_sigs.proofs.Slots.{read, read_past}
use Rattle.jn_sigs.proofs.sig.Sig.get.Goals as goal

pub returns-then-slot-self : goal.returns-then-slot-self
returns-then-slot-self c = read c.self.inside.words.items c.self.inside.slots c.args.slot.0 c.index.result.now c.unpack.result c.args.self.now c.self.invariant c.self.view_is c.if-slot-self.true c.index.ensures c.unpack.ensures

pub returns-else-slot-self : goal.returns-else-slot-self
returns-else-slot-self c = c.none.ensures ∙ read_past c.self.inside.words.items c.self.inside.slots c.args.slot.0 c.args.self.now c.self.view_is c.if-slot-self.false
