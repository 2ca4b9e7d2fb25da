use Rattle.std.proofs.Common.{List, subst}
use Rattle.jn_trees.specs.declared.expression.Expr.{Expr}
use Rattle.jn_trees.specs.declared.statement.LocalDeclaration.{LocalDeclaration}
use Rattle.jn_places.specs.PlacedView.{placed_views, placed_local}
use Rattle.jn_tree_world.specs.Outcomes.{MeansAs}
use Rattle.jn_tree_world.specs.Worlds.{world_of}
use Rattle.jn_tree_simple.specs.Doing.{declares_at, effects_at}
use Rattle.jn_tree_simple.specs.Standings.{onward_of, standing_of}
use Rattle.jn_tree_simple.proofs.pieces.begin.Goals as goal

pub returns-in-Expressions-clause-means : goal.returns-in-Expressions-clause-means
returns-in-Expressions-clause-means g c = λ turns m h. rw c.in-Expressions.is (subst (λ (es : List Expr). MeansAs onward_of (effects_at c.args.b.now c.args.names.now m turns (standing_of c.args.st.now) (placed_views es) (world_of c.args.w.now)) c.effects.result (world_of c.effects.new.w)) c.deref.ensures.value (c.effects.ensures.means turns m h))

pub returns-in-Declaration-clause-means : goal.returns-in-Declaration-clause-means
returns-in-Declaration-clause-means g c = λ turns m h. rw c.in-Declaration.is (subst (λ (l : LocalDeclaration). MeansAs onward_of (declares_at c.args.b.now c.args.names.now m turns (standing_of c.args.st.now) (placed_local l) (world_of c.args.w.now)) c.declaration.result (world_of c.declaration.new.w)) c.deref-in-Declaration.ensures (c.declaration.ensures.means turns m h))
