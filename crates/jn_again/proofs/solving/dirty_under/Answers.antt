use Rattle.std.proofs.Common.{ℕ, List, length, sym, ap, ◌∙◌, subst}
use Rattle.jn_sigtable.specs.System.{System}
use Rattle.jn_again.proofs.Going.{AreTold, each_closed, last_long, room_same}
use Rattle.jn_again.proofs.solving.dirty_under.Goals as goal

pub differing-requires : goal.differing-requires
differing-requires g c = c.requires ∙ c.args.edit.now.ready.edit.start_count ∙ sym c.args.edit.now.ready.edit.agrees.words ∙ sym (last_long (g.C.Constraints.describe c.args.edit.now.old.now) (g.C.Constraints.describe c.args.edit.now.new.now) c.args.edit.now.before.now c.args.edit.now.start.now c.args.edit.now.last.now c.args.edit.now.changed.now c.args.edit.now.ready.edit)

pub find_dirty-requires-clause-bodies : goal.find_dirty-requires-clause-bodies
find_dirty-requires-clause-bodies g c = c.bodies.ensures ∙ ap (λ (s : System). s.bodies) (sym c.args.edit.now.ready.reach)

pub find_dirty-requires-clause-flags : goal.find_dirty-requires-clause-flags
find_dirty-requires-clause-flags g c = c.args.edit.now.ready.flags ∙ ap (λ (s : System). s.bodies) (sym c.args.edit.now.ready.reach)

pub find_dirty-requires-clause-bits : goal.find_dirty-requires-clause-bits
find_dirty-requires-clause-bits g c = ap (λ (l : List ℕ). length l) c.as_slice.ensures.value ∙ c.in_ok-moved.ensures.count ∙ last_long (g.C.Constraints.describe c.args.edit.now.old.now) (g.C.Constraints.describe c.args.edit.now.new.now) c.args.edit.now.before.now c.args.edit.now.start.now c.args.edit.now.last.now c.args.edit.now.changed.now c.args.edit.now.ready.edit ∙ ap (λ (s : System). s.words) (sym c.args.edit.now.ready.reach)

pub returns-clause-count : goal.returns-clause-count
returns-clause-count g c = c.in_ok-dirty.ensures.count ∙ room_same (g.C.Constraints.describe c.args.edit.now.old.now) (g.C.Constraints.describe c.args.edit.now.new.now) c.args.edit.now.before.now c.args.edit.now.start.now c.args.edit.now.last.now c.args.edit.now.changed.now c.args.edit.now.ready.edit (g.R.Reach.describe c.args.edit.now.reach.now) c.args.edit.now.ready.reach

pub returns-clause-each : goal.returns-clause-each
returns-clause-each g c =
    each_closed (g.C.Constraints.describe c.args.edit.now.old.now) (g.C.Constraints.describe c.args.edit.now.new.now) c.args.edit.now.before.now c.args.edit.now.start.now c.args.edit.now.last.now c.args.edit.now.changed.now c.args.edit.now.ready.edit (g.R.Reach.describe c.args.edit.now.reach.now) c.args.words.now c.in_ok-moved.moved.items c.in_ok-dirty.dirty.items c.args.edit.now.ready.reach c.requires c.in_ok-moved.ensures.each
    (subst (λ (l : List ℕ). AreTold c.args.edit.now.changed.now (g.R.Reach.describe c.args.edit.now.reach.now) l c.in_ok-dirty.dirty.items (g.R.Reach.describe c.args.edit.now.reach.now).bodies) c.as_slice.ensures.value c.in_ok-dirty.ensures.each)
