use Rattle.std.proofs.Common.{◌≡◌, take}
use Rattle.jn_reuse.proofs.pairs.copy_overriders.Given as goal

abbrev pub invariant-loop-entry : goal.invariant-loop-entry
invariant-loop-entry l = l.copy.items ≡ take l.entry-index l.list
