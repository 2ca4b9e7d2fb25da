use Rattle.std.proofs.Common.{refl, subst}
use Rattle.jn_places.specs.PlacedView.{placed_file}
use Rattle.jn_renumber.specs.Merged.{merged_numbers}
use Rattle.jn_front.specs.Numbered.{numbered_by}
use Rattle.jn_kept_trees.specs.Merges.{IsWay}
use Rattle.jn_kept_trees.proofs.Renumbering.{numbered_way}
use Rattle.jn_kept_trees.proofs.merging.join_tree.Goals as goal

pub returns-clause-joined : goal.returns-clause-joined
returns-clause-joined c =
    let kept = c.args.kept in
    let next = c.in_ok-next.next in
    let numbers = merged_numbers c.args.names.now kept.own in
    let way = subst (λ ns. IsWay kept.numbers ns next.by) c.in_ok-next.ensures.numbers c.in_ok-next.ensures.by in (
      numbered_by next.by (placed_file kept.tree),
      record { own = kept.own; numbers = next.numbers },
      c.in_ok-next.ensures.names,
      c.in_ok-put_parts.ensures.trees,
      c.in_ok-put_parts.ensures.texts,
      numbered_way c.files_have_one_placed_tree.ensures kept numbers next.by c.requires.fit.1 way,
      (refl, c.in_ok-next.ensures.numbers),
    )
