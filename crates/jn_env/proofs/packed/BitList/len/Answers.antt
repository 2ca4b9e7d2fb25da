use Rattle.std.proofs.Common.{length, sym, ap, ◌∙◌}
use Rattle.jn_env.proofs.Held.{length-bits_of}
use Rattle.jn_env.proofs.packed.BitList.len.Goals as goal

pub returns : goal.returns
returns c = sym (length-bits_of c.self.inside.words.items c.self.inside.count) ∙ ap length c.self.view_is
