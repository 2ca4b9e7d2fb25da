use Rattle.std.proofs.Common.{rules, ◌≡◌, None, [], ◌∷◌, ◌++◌, length, map, sym, ap, ◌∙◌}
use Rattle.std.proofs.lemmas.List.{map-append, nil_from_length}
use Rattle.jn_places.specs.PlacedView.{placed_file}
use Rattle.jn_renumber.specs.Merged.{merged, merged_numbers}
use Rattle.jn_renumber.specs.Renumbered.{renumbered_file}
use Rattle.jn_front.specs.declared.renumbering.Numbered.{Numbered}
use Rattle.jn_front.specs.Numbered.{numbered_tree}
use Rattle.jn_front.proofs.First.{first_stays}
use Rattle.jn_front.proofs.gathering.join_tree.Goals as goal

pub returns-then-is_empty-clause-names : goal.returns-then-is_empty-clause-names
returns-then-is_empty-clause-names c =
    let empty : length c.args.trees.now.items ≡ 0 = search rules in
    let known = c.requires.begun (nil_from_length c.args.trees.now.items empty) in
    let merging = c.own_names_can_be_merged.ensures in
    let stays = first_stays merging.only c.own_trees_can_be_renumbered.ensures.parsed c.files_have_one_placed_tree.ensures merging.begun c.requires.found.0 c.requires.found.1 c.args.own c.args.tree c.requires.found.2 in
    stays.0 ∙ ap (λ ns. merged ns c.args.own) (sym known)

pub returns-then-is_empty-clause-trees : goal.returns-then-is_empty-clause-trees
returns-then-is_empty-clause-trees c =
    let empty : length c.args.trees.now.items ≡ 0 = search rules in
    let known = c.requires.begun (nil_from_length c.args.trees.now.items empty) in
    let merging = c.own_names_can_be_merged.ensures in
    let stays = first_stays merging.only c.own_trees_can_be_renumbered.ensures.parsed c.files_have_one_placed_tree.ensures merging.begun c.requires.found.0 c.requires.found.1 c.args.own c.args.tree c.requires.found.2 in
    let trees = c.args.trees.now.items in
    let same = stays.1 ∙ ap (λ ns. renumbered_file (merged_numbers ns c.args.own) (placed_file c.args.tree)) (sym known) in
    let kept : Numbered = record { tree = c.args.tree; numbers = None } in
    let put : c.put.new.items.items ≡ trees ++ kept ∷ [] = c.in_ok-put.ensures in
    ap (map numbered_tree) put ∙ map-append numbered_tree trees (kept ∷ []) ∙ ap (λ tree. map numbered_tree trees ++ tree ∷ []) same
