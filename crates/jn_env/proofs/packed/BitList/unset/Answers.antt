use Rattle.std.proofs.Common.{◌≡◌, ◌+◌, ◌/◌, ap, ◌∙◌}
use Rattle.jn_env.specs.Packed.{bits_of}
use Rattle.jn_quals.proofs.WordLists.{zeros}
use Rattle.jn_env.proofs.Held.{zeros_held, zeros_are}
use Rattle.jn_env.proofs.packed.BitList.unset.Goals as goal

pub returns : goal.returns
returns c =
    let n = c.args.count / 63 + 1 in
    let is : c.in_ok-words.words.items ≡ zeros n = c.in_ok-words.ensures.items_if_clones_equal (λ y e. e) in
    ap (λ words. bits_of words c.args.count) is ∙ zeros_are n c.args.count

pub invariant_of-result : goal.invariant_of-result
invariant_of-result c =
    let is : c.in_ok-words.words.items ≡ zeros (c.args.count / 63 + 1) = c.in_ok-words.ensures.items_if_clones_equal (λ y e. e) in
    rw is (zeros_held c.args.count)
