use Rattle.jn_again.proofs.Nothing.{none_keepable}
use Rattle.jn_again.proofs.finding.lose_all.Goals as goal

pub returns-then-are_none : goal.returns-then-are_none
returns-then-are_none g c = λ e.
    none_keepable (g.C.Constraints.describe c.args.edit.now.old.now) (g.C.Constraints.describe c.args.edit.now.new.now) c.args.edit.now.before.now c.args.edit.now.start.now c.args.edit.now.last.now c.args.edit.now.changed.now c.lose_changed.new.lost
    c.in_ok-lose_changed.ensures (c.are_none.ensures c.if-are_none.true)
