use Rattle.std.proofs.Common.{◌≡◌, map, sym, ap, subst, ◌∙◌}
use Rattle.jn_places.specs.PlacedView.{placed_file}
use Rattle.nullcheck_top.specs.declared.found.CheckedFiles.{CheckedFiles}
use Rattle.nullcheck_top.specs.declared.found.Found.{Found}
use Rattle.nullcheck_top.specs.Found.{AreAtHand, AreWhole}
use Rattle.nullcheck_top.proofs.answers.answer_reads.Goals.{then-drops, else-drops}
use Rattle.nullcheck_top.proofs.answers.answer_reads.Goals as goal

pub answer_checked-status-requires-clause-safe : goal.answer_checked-status-requires-clause-safe
answer_checked-status-requires-clause-safe g c κs lives none =
    let same : c.if-drops.checked.found ≡ c.in-Ok.checked.found = elim c.if-drops.branch [
      | then-drops w ↦ ap (λ (k : CheckedFiles). k.found) w.checked-is
      | else-drops w ↦ ap (λ (k : CheckedFiles). k.found) w.checked-is
    ] in
    c.in-Ok.ensures.safe (ap (λ (f : Found). f.report) (sym same) ∙ none)

pub answer_checked-status-requires-clause-whole : goal.answer_checked-status-requires-clause-whole
answer_checked-status-requires-clause-whole g c κs lives =
    let same : c.if-drops.checked.found ≡ c.in-Ok.checked.found = elim c.if-drops.branch [
      | then-drops w ↦ ap (λ (k : CheckedFiles). k.found) w.checked-is
      | else-drops w ↦ ap (λ (k : CheckedFiles). k.found) w.checked-is
    ] in
    subst (λ (f : Found). AreWhole f.report c.args.reads.now) (sym same) c.in-Ok.ensures.whole

pub answer_checked-status-requires-clause-trees : goal.answer_checked-status-requires-clause-trees
answer_checked-status-requires-clause-trees g c κs lives = elim c.if-drops.branch [
  | then-drops w ↦ λ rows is. absurd (c.drops_trees-drops.ensures w.if-drops.true rows (ap (λ (k : CheckedFiles). k.found.report) (sym w.checked-is) ∙ is))
  | else-drops w ↦ subst (λ (k : CheckedFiles). AreAtHand c.args.reads.now k.found.report k.names (map placed_file k.trees.items)) (sym w.checked-is) c.in-Ok.ensures.trees
]
