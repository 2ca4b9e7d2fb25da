use Rattle.jn_resume.proofs.Edits.{old_least}
use Rattle.jn_again.specs.Losing.{told}
use Rattle.jn_again.proofs.Rounds.{all_keepable}
use Rattle.jn_again.proofs.finding.find_lost.Goals as goal

pub returns-clause-lost : goal.returns-clause-lost
returns-clause-lost g c = all_keepable (g.C.Constraints.describe c.args.edit.now.old.now) (g.C.Constraints.describe c.args.edit.now.new.now) c.args.edit.now.before.now c.args.edit.now.start.now c.args.edit.now.last.now c.args.edit.now.changed.now c.in_ok-all.all.items (old_least (g.C.Constraints.describe c.args.edit.now.old.now) (g.C.Constraints.describe c.args.edit.now.new.now) c.args.edit.now.before.now c.args.edit.now.start.now c.args.edit.now.last.now (told c.args.edit.now.changed.now) c.args.edit.now.ready.edit) c.in_ok-all.ensures
