use Rattle.std.proofs.Common.{◌≡◌, ◌-◌, drop}
use Rattle.jn_points.specs.Members as spec
use Rattle.jn_points.proofs.members.+reaches.Given as goal

abbrev pub decreases-reaches : goal.decreases-reaches
decreases-reaches l = l.steps

abbrev pub invariant-loop-parent : goal.invariant-loop-parent
invariant-loop-parent l = spec.some_of (λ s. spec.reaches l.program (l.steps - 1) s.0 l.d.0) (drop l.parent-index l.supers) ≡ spec.reaches l.program l.steps l.fn.c.0 l.d.0
