use Rattle.std.proofs.Common.{sym, ◌∙◌, subst}
use Rattle.jn_kept_trees.specs.Merges.{HasWay}
use Rattle.jn_kept_trees.proofs.Ways.{has_way}
use Rattle.jn_kept_trees.proofs.merging.next_numbers.Goals as goal

pub way-requires : goal.way-requires
way-requires c =
    let kept = c.args.kept.now in
    subst (HasWay kept.numbers) (sym (c.deref.ensures.value ∙ c.in_ok-numbers.ensures.numbers)) (has_way kept.numbers kept.own c.args.names.now c.requires.fit.1)
