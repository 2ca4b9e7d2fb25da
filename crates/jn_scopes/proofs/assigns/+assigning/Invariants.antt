use Rattle.std.proofs.Common.{◌≡◌, drop}
use Rattle.jn_lowering.specs.Expressions as spec
use Rattle.jn_places.specs.PlacedView.{placed_views}
use Rattle.jn_scopes.specs.Views.{scope_in}
use Rattle.jn_scopes.proofs.assigns.+assigning.Given as goal

abbrev pub invariant-assigns_any-loop-tree : goal.invariant-assigns_any-loop-tree
invariant-assigns_any-loop-tree l = spec.assigns_any l.c.program.now l.c.class.0 (scope_in l.c) l.reg (placed_views (drop l.tree-index l.trees)) ≡ spec.assigns_any l.c.program.now l.c.class.0 (scope_in l.c) l.reg (placed_views l.trees)
