use Rattle.std.proofs.Common.{◌≡◌, length}
use Rattle.jn_causes.specs.Causes.{end_of}
use Rattle.jn_causes.proofs.caused.end_of.Given as goal

abbrev pub invariant-loop-last : goal.invariant-loop-last
invariant-loop-last l = end_of l.left ≡ end_of l.notes

abbrev pub decreases-loop-last : goal.decreases-loop-last
decreases-loop-last l = length l.left
