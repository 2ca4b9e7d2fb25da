use Rattle.std.proofs.Common.{◌≡◌, ◌≤◌, length, drop}
use Rattle.jn_lowering.specs.Locals.{annotations_of, bound_of}
use Rattle.jn_scopes.specs.Views as view
use Rattle.jn_lower_stmt.proofs.types.bound_of_marks.Given as goal

abbrev pub invariant-loop-at : goal.invariant-loop-at
invariant-loop-at l = (l.at ≤ length l.modifiers) × (view.bound_of l.all ≡ bound_of (annotations_of (drop l.at l.modifiers)))

abbrev pub decreases-loop-at : goal.decreases-loop-at
decreases-loop-at l = l.at
