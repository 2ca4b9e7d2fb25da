use Rattle.std.proofs.Common.{◌≡◌, ◌≤◌, length, drop}
use Rattle.jn_lowering.specs.Locals.{bound_of}
use Rattle.jn_scopes.specs.Views as view
use Rattle.jn_lower_stmt.proofs.types.bound_of_brackets.Given as goal

abbrev pub invariant-loop-at : goal.invariant-loop-at
invariant-loop-at l = (l.at ≤ length l.annotations) × (view.bound_of l.all ≡ bound_of (drop l.at l.annotations))

abbrev pub decreases-loop-at : goal.decreases-loop-at
decreases-loop-at l = l.at
