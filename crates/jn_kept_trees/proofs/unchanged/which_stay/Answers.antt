use Rattle.std.proofs.Common.{◌≡◌, ◌++◌, ◌∷◌, [], Bool, Some, false, length, refl, sym, ap, ◌∙◌, arith}
use Rattle.std.specs.Prelude.{get_or, slice_get}
use Rattle.std.proofs.lemmas.Option.{slice_get_read}
use Rattle.jn_kept_trees.specs.Staying.{stays_as_it_was}
use Rattle.jn_kept_trees.proofs.ReadFiles.{more_long, one_more}
use Rattle.jn_kept_trees.proofs.Stays.{all_told}
use Rattle.jn_kept_trees.proofs.unchanged.which_stay.Goals as goal

pub loop-at-preserved : goal.loop-at-preserved
loop-at-preserved c =
    let loop = c.loop-at in
    let at = loop.at in
    let trees = c.args.trees.now in
    let flags = c.args.kept.now in
    let one = c.stays-one.result in
    let there = slice_get_read trees (length trees) at c.index-trees-at.result refl c.loop-at-test.true c.index-trees-at.is in
    let is : one ≡ stays_as_it_was (get_or flags at false) (slice_get trees at) = c.stays-one.ensures ∙ ap (λ b. stays_as_it_was b (Some c.index-trees-at.result)) c.is_told.ensures ∙ ap (stays_as_it_was (get_or flags at false)) (sym there) in
    let after = c.put.new.items.items in
    let put : after ≡ loop.same.items ++ one ∷ [] = c.in_ok-put.ensures in
    record {
      long = more_long loop.same.items after one at loop.invariant.long put;
      each = one_more false (λ n (told : Bool). told ≡ stays_as_it_was (get_or flags n false) (slice_get trees n)) loop.same.items after one at loop.invariant.long put loop.invariant.each is;
    }

pub returns : goal.returns
returns c =
    let loop = c.loop-at in
    let trees = c.args.trees.now in
    let begun = c.loop-at.auto.at-end in
    let ended = c.loop-at-test.false in
    let all : loop.at ≡ length trees = omega (arith, begun, ended) in
    all_told c.args.kept.now loop.same.items trees (loop.invariant.long ∙ all) (λ n lt. loop.invariant.each n (omega (arith, lt, all)))
