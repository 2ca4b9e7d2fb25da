use Rattle.std.proofs.Common.{length, sym, ap, ◌∙◌}
use Rattle.jn_sigs.proofs.Slots.{length-unpacked}
use Rattle.jn_sigs.proofs.sig.Sig.slots.Goals as goal

pub returns : goal.returns
returns c = sym (length-unpacked c.self.inside.words.items c.self.inside.slots) ∙ ap length c.self.view_is
