use Rattle.std.proofs.Common.{◌≡◌, length, drop, map, ap, ◌∙◌}
use Rattle.std.proofs.lemmas.List.{take_at}
use Rattle.jn_places.specs.PlacedView.{placed_file}
use Rattle.jn_front.specs.Numbered.{numbered_tree, tree_of}
use Rattle.jn_front.proofs.Numbering.{all_numbered}
use Rattle.jn_front.proofs.renumbering.renumber_by.Goals as goal

pub returns : goal.returns
returns g c =
    let before = c.as_mut_slice.result.now in
    let after = c.renumber_all.new.numbered in
    let many : length after ≡ length before = c.renumber_all.auto.numbered in
    let whole = take_at after (drop (length after) c.args.numbered.items) c.args.numbered.len (many ∙ c.as_mut_slice.ensures.len) in
    ap (map placed_file) (c.in_ok-trees.ensures ∙ ap (map tree_of) whole) ∙ all_numbered before after many c.renumber_all.ensures ∙ ap (map numbered_tree) c.as_mut_slice.ensures.value
