use Rattle.std.proofs.Common.{◌≡◌, refl, subst}
use Rattle.jn_trees.specs.declared.expression.Expr.{Expr}
use Rattle.jn_places.specs.PlacedView.{placed_view}
use Rattle.jn_meaning.specs.Worlds.{Has}
use Rattle.jn_tree_world.specs.Outcomes.{IsStop}
use Rattle.jn_tree_world.specs.Worlds.{world_of}
use Rattle.jn_tree_world.proofs.Binding.{stop_then, stops}
use Rattle.jn_tree_simple.specs.Doing.{value_at}
use Rattle.jn_tree_simple.specs.Standings.{flow_of, standing_of}
use Rattle.jn_tree_simple.proofs.Founding.{has_behind}
use Rattle.jn_tree_simple.proofs.pieces.returned.Goals as goal

pub returns-in_err-value-in-Some : goal.returns-in_err-value-in-Some
returns-in_err-value-in-Some g c = record { means = λ turns m h. rw c.in-Some.is (stops flow_of _ c.in_err-value-in-Some.field-0.0 c.from_residual.result (world_of c.value_in.new.w) c.from_residual.ensures.1 (stop_then c.in_err-value-in-Some.field-0.0 _ _ _ (subst (λ (x : Expr). IsStop c.in_err-value-in-Some.field-0.0 (value_at c.args.b.now c.args.names.now m turns (standing_of c.args.st.now) (placed_view x) (world_of c.args.w.now)) c.value_in.new.w.out.items) c.deref.ensures (c.in_err-value-in-Some.ensures.means turns m h)))) }

pub returns-in_ok-value-in-Some : goal.returns-in_ok-value-in-Some
returns-in_ok-value-in-Some g c = record { means = λ turns m h. rw c.in-Some.is (has_behind _ _ c.in_ok-value-in-Some.value (world_of c.value_in.new.w) _ (subst (λ (x : Expr). value_at c.args.b.now c.args.names.now m turns (standing_of c.args.st.now) (placed_view x) (world_of c.args.w.now) ≡ Has c.in_ok-value-in-Some.value (world_of c.value_in.new.w)) c.deref.ensures (c.in_ok-value-in-Some.ensures.means turns m h)) refl) }
