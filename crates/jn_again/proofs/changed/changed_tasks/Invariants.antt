use Rattle.std.proofs.Common.{◌≡◌, length}
use Rattle.jn_again.specs.Flags.{AreChangedBelow}
use Rattle.jn_again.proofs.changed.changed_tasks.Given as goal

abbrev pub invariant-loop-at : goal.invariant-loop-at
invariant-loop-at l = (length l.flags.items ≡ l.at) × AreChangedBelow l.at l.old l.new l.flags.items
