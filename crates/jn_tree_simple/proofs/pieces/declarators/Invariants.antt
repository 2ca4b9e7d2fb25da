use Rattle.std.proofs.Common.{◌≡◌, drop}
use Rattle.std.specs.Prelude.{ℕ}
use Rattle.jn_heap.specs.Values.{usual_limits}
use Rattle.jn_places.specs.PlacedView.{placed_declarators}
use Rattle.jn_scopes.specs.Views.{bound_of}
use Rattle.jn_lower_stmt.specs.Views.{rows_of}
use Rattle.jn_meaning.specs.Expressions.{Caller}
use Rattle.jn_meaning.specs.Statements.{behind_declarators, declarators}
use Rattle.jn_tree_world.specs.Worlds.{world_of}
use Rattle.jn_tree_simple.specs.Standings.{standing_of}
use Rattle.jn_tree_simple.proofs.pieces.declarators.Given as goal

abbrev pub invariant-loop-tree : goal.invariant-loop-tree
invariant-loop-tree g l =
    (behind_declarators l.kind.base (bound_of l.kind.bound) l.is_final (rows_of l.kind.fault) (standing_of l.initial.st) (placed_declarators l.trees) ≡ behind_declarators l.kind.base (bound_of l.kind.bound) l.is_final (rows_of l.kind.fault) (standing_of l.st) (placed_declarators (drop l.tree-index l.trees)))
    × ((turns : ℕ) (m : Caller) → g.F.Enters.keeps l.call m →
    declarators l.b.program.now l.names usual_limits.longest m turns l.b.class.0 l.kind.base (bound_of l.kind.bound) l.is_final (rows_of l.kind.fault) (standing_of l.initial.st) (placed_declarators l.trees) (world_of l.initial.w)
    ≡ declarators l.b.program.now l.names usual_limits.longest m turns l.b.class.0 l.kind.base (bound_of l.kind.bound) l.is_final (rows_of l.kind.fault) (standing_of l.st) (placed_declarators (drop l.tree-index l.trees)) (world_of l.w))
