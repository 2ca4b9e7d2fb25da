use Rattle.std.proofs.Common.{◌≡◌, length}
use Rattle.jn_annotate.specs.Imports as spec
use Rattle.jn_annotate.proofs.lines.line_end.Given as goal

abbrev pub invariant-loop-rest : goal.invariant-loop-rest
invariant-loop-rest l = spec.line_end l.rest ≡ spec.line_end l.text

abbrev pub decreases-loop-rest : goal.decreases-loop-rest
decreases-loop-rest l = length l.rest
