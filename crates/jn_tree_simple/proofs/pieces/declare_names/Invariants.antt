use Rattle.std.proofs.Common.{◌≡◌, drop}
use Rattle.jn_places.specs.PlacedView.{placed_declarators}
use Rattle.jn_scopes.specs.Views.{bound_of}
use Rattle.jn_lower_stmt.specs.Views.{rows_of}
use Rattle.jn_meaning.specs.Statements.{behind_declarators}
use Rattle.jn_tree_simple.specs.Standings.{standing_of}
use Rattle.jn_tree_simple.proofs.pieces.declare_names.Given as goal

abbrev pub invariant-loop-tree : goal.invariant-loop-tree
invariant-loop-tree l = behind_declarators l.kind.base (bound_of l.kind.bound) l.is_final (rows_of l.kind.fault) (standing_of l.initial.st) (placed_declarators l.trees) ≡ behind_declarators l.kind.base (bound_of l.kind.bound) l.is_final (rows_of l.kind.fault) (standing_of l.st) (placed_declarators (drop l.tree-index l.trees))
