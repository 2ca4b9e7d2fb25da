use Rattle.std.proofs.Common.{◌≡◌, ◌+◌, ◌/◌, ap, ◌∙◌}
use Rattle.jn_sigs.specs.Packed.{unpacked}
use Rattle.jn_quals.proofs.WordLists.{zeros}
use Rattle.jn_sigs.proofs.Slots.{zeros_packed, zeros_unpacked}
use Rattle.jn_sigs.proofs.sig.Sig.empty.Goals as goal

pub returns : goal.returns
returns c =
    let is : c.in_ok-words.words.items ≡ zeros c.words_for.result = c.in_ok-words.ensures.items_if_clones_equal (λ y e. e) in
    ap (λ words. unpacked words c.args.slots) is ∙ zeros_unpacked c.words_for.result c.args.slots

pub invariant_of-result : goal.invariant_of-result
invariant_of-result c =
    let is : c.in_ok-words.words.items ≡ zeros ((c.args.slots + 20) / 21) = c.in_ok-words.ensures.items_if_clones_equal (λ y e. e) ∙ ap zeros c.words_for.ensures in
    rw is (zeros_packed c.args.slots)
