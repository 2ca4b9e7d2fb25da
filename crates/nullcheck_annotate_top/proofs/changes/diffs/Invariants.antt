use Rattle.std.proofs.Common.{◌≡◌, take}
use Rattle.nullcheck_annotate_top.specs.Changes.{diffs}
use Rattle.nullcheck_annotate_top.proofs.changes.diffs.Given as goal

abbrev pub invariant-loop-change : goal.invariant-loop-change
invariant-loop-change l = l.text.items ≡ diffs (take l.change-index l.changes)
