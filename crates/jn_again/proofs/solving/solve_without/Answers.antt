use Rattle.std.proofs.Common.{ℕ, ◌<◌, List, length, sym, ap, ◌∙◌, subst}
use Rattle.jn_resume.proofs.Edits.{lies_between}
use Rattle.jn_worklist.specs.Drains.{IsDirtyOrClosed}
use Rattle.jn_again.specs.Losing.{told}
use Rattle.jn_again.proofs.Going.{last_long}
use Rattle.jn_again.proofs.solving.solve_without.Goals as goal

pub standing_words-requires-clause-old : goal.standing_words-requires-clause-old
standing_words-requires-clause-old g c = last_long (g.C.Constraints.describe c.args.edit.now.old.now) (g.C.Constraints.describe c.args.edit.now.new.now) c.args.edit.now.before.now c.args.edit.now.start.now c.args.edit.now.last.now c.args.edit.now.changed.now c.args.edit.now.ready.edit ∙ c.args.edit.now.ready.edit.agrees.words ∙ sym c.args.edit.now.ready.edit.start_count

pub standing_words-requires-clause-lost : goal.standing_words-requires-clause-lost
standing_words-requires-clause-lost g c = c.requires.count ∙ c.args.edit.now.ready.edit.agrees.words ∙ sym c.args.edit.now.ready.edit.start_count

pub dirty_under-requires : goal.dirty_under-requires
dirty_under-requires g c = ap (λ (l : List ℕ). length l) c.as_slice.ensures.value ∙ c.in_ok-words.ensures.count

pub resume-requires-clause-count : goal.resume-requires-clause-count
resume-requires-clause-count g c = c.args.edit.now.ready.edit.start_count

pub resume-requires-clause-between : goal.resume-requires-clause-between
resume-requires-clause-between g c = lies_between (g.C.Constraints.describe c.args.edit.now.old.now) (g.C.Constraints.describe c.args.edit.now.new.now) c.args.edit.now.before.now c.args.edit.now.start.now c.args.edit.now.last.now c.args.lost.now c.in_ok-words.words.items (told c.args.edit.now.changed.now) c.args.edit.now.ready.edit c.requires.lost c.in_ok-words.ensures

pub resume-requires-clause-each : goal.resume-requires-clause-each
resume-requires-clause-each g c = subst (λ (l : List ℕ). (b : ℕ) → b < (g.C.Constraints.describe c.args.edit.now.new.now).bodies → IsDirtyOrClosed (g.C.Constraints.describe c.args.edit.now.new.now) l c.in_ok-dirty.dirty.items b) c.as_slice.ensures.value c.in_ok-dirty.ensures.each
