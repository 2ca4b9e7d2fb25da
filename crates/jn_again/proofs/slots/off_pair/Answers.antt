use Rattle.std.proofs.Common.{◌≡◌, ℕ, ◌++◌, Bool, true, List, sym, subst}
use Rattle.std.specs.Prelude.{◌↔◌, ◌&&◌, slice_index}
use Rattle.jn_recheck_law.specs.Unread.{AreUnlost, methods_slots, pair_slots}
use Rattle.jn_points.specs.Lookup.{method_at}
use Rattle.jn_recheck_law.specs.RuleReads.{method_slots}
use Rattle.jn_again.proofs.Clear.{clear_two}
use Rattle.jn_again.proofs.slots.off_pair.Goals as goal

pub returns : goal.returns
returns c =
    let bits = slice_index c.args.bits.now in
    let P = c.args.program.now in
    let own = method_slots (method_at P c.args.method.0) in
    let all = clear_two bits own (methods_slots P c.args.overridden.now) c.off_method-own.result c.off_methods-others.result c.off_method-own.ensures c.off_methods-others.ensures in
    subst (λ (t : Bool). (t ≡ true) ↔ AreUnlost bits (pair_slots P c.args.method.0)) (sym c.both_of.ensures)
    (subst (λ (ks : List ℕ). ((c.off_method-own.result && c.off_methods-others.result) ≡ true) ↔ AreUnlost bits (own ++ methods_slots P ks)) c.requires.under all)
