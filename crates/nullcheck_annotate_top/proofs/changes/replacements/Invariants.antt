use Rattle.std.proofs.Common.{◌≡◌, take}
use Rattle.nullcheck_annotate_top.specs.Changes.{replacements}
use Rattle.nullcheck_annotate_top.proofs.changes.replacements.Given as goal

abbrev pub invariant-loop-change : goal.invariant-loop-change
invariant-loop-change l = l.files.items ≡ replacements (take l.change-index l.changes)
