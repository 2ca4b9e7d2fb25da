use Rattle.std.proofs.Common.{length}
use Rattle.jn_script.proofs.Standing.{ReadTo}
use Rattle.jn_script.proofs.script.read_script.Given as goal

abbrev pub invariant-loop-rest : goal.invariant-loop-rest
invariant-loop-rest l = ReadTo l.script l.rest l.names.items l.steps.items l.line

abbrev pub decreases-loop-rest : goal.decreases-loop-rest
decreases-loop-rest l = length l.rest
