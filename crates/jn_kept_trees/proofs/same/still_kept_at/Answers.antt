use Rattle.std.proofs.Common.{None, get_or, sym, subst}
use Rattle.jn_kept_trees.specs.KeptTrees.{IsKeptOrNone}
use Rattle.jn_kept_trees.proofs.Keeping.{same_text}
use Rattle.jn_kept_trees.proofs.same.still_kept_at.Goals as goal

pub returns-then-had_text-clause-kept : goal.returns-then-had_text-clause-kept
returns-then-had_text-clause-kept c =
    let had = c.had_text.ensures.had c.if-had_text.true in
    let file = c.args.read.now.file in
    let one = get_or c.args.trees.now.items c.args.at None in
    subst (IsKeptOrNone c.args.at file) (sym c.take_at.ensures.taken) (same_text c.args.at had.0 file one had.2 (c.requires had.0 had.1))
