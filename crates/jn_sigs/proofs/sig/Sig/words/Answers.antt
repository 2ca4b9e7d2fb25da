use Rattle.std.proofs.Common.{◌≡◌, length, ap, sym, ◌∙◌}
use Rattle.jn_sigs.proofs.Slots.{length-unpacked}
use Rattle.jn_sigs.proofs.sig.Sig.words.Goals as goal

pub returns-clause-packed : goal.returns-clause-packed
returns-clause-packed c =
    let long : length c.args.self.now ≡ c.self.inside.slots = ap length (sym c.self.view_is) ∙ length-unpacked c.self.inside.words.items c.self.inside.slots in
    rw (c.deref.ensures.value, long) c.self.invariant

pub returns-clause-same : goal.returns-clause-same
returns-clause-same c =
    let long : length c.args.self.now ≡ c.self.inside.slots = ap length (sym c.self.view_is) ∙ length-unpacked c.self.inside.words.items c.self.inside.slots in
    rw (c.deref.ensures.value, long) c.self.view_is
