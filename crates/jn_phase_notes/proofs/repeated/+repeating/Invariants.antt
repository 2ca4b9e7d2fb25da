use Rattle.std.proofs.Common.{◌≡◌, ◌++◌, drop}
use Rattle.jn_places.specs.PlacedView.{placed_statements}
use Rattle.jn_phase_notes.specs.Earlier.{all_seconds}
use Rattle.jn_phase_notes.proofs.Scopes.{Begins}
use Rattle.jn_phase_notes.proofs.repeated.+repeating.Given as goal

abbrev pub invariant-statements-loop-tree : goal.invariant-statements-loop-tree
invariant-statements-loop-tree l = Begins l.fn.scope l.scope × (l.found ++ all_seconds l.scope (placed_statements (drop l.tree-index l.trees)) ≡ l.fn.found ++ all_seconds l.fn.scope (placed_statements l.trees))
