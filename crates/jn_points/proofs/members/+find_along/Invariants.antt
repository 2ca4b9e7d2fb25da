use Rattle.std.proofs.Common.{◌≡◌, ◌-◌, drop}
use Rattle.jn_points.specs.Members as spec
use Rattle.jn_points.specs.Sought.{declared}
use Rattle.jn_points.proofs.Walks.{along}
use Rattle.jn_points.proofs.members.+find_along.Given as goal

abbrev pub decreases-find_along : goal.decreases-find_along
decreases-find_along l = l.steps

abbrev pub invariant-loop-interface : goal.invariant-loop-interface
invariant-loop-interface l = along l.program (declared l.program l.sought l.c.0) (l.steps - 1) l.class.parent (drop l.interface-index l.supers) ≡ spec.first_some (declared l.program l.sought l.c.0) (spec.walk_by l.program l.steps l.fn.d.0)
