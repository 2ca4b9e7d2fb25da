use Rattle.jn_recheck.proofs.OwnNames.{own_without}
use Rattle.jn_recheck.proofs.Showing.{fit_without}
use Rattle.jn_recheck.proofs.file_set.FileSet.remove.Goals as goal

pub invariant_of-self : goal.invariant_of-self
invariant_of-self c =
    let old = c.self.inside.items.items in
    let new = c.remove_file.new.files.items in
    let removed = c.remove_file.ensures.removed in
    (fit_without c.args.name.now old new c.self.invariant.0 removed, own_without c.args.name.now old new c.self.invariant.1 removed)
