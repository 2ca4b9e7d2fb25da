use Rattle.std.proofs.Common.{◌≡◌, Bool, refl, subst, true, false}
use Rattle.jn_meaning.specs.Worlds.{Has}
use Rattle.jn_tree_world.specs.Worlds.{world_of}
use Rattle.jn_tree_world.proofs.Binding.{stop_then, stops}
use Rattle.jn_tree_simple.proofs.Founding.{has_behind}
use Rattle.jn_tree_simple.specs.Doing.{holds_at}
use Rattle.jn_tree_simple.specs.Standings.{standing_of}
use Rattle.jn_places.specs.PlacedView.{placed_view}
use Rattle.jn_tree_stmt.specs.Leaving.{left_of, tested}
use Rattle.jn_tree_stmt.proofs.turns.conclude.Goals as goal

pub returns-in_err-tested : goal.returns-in_err-tested
returns-in_err-tested g c = record { means = λ turns m k. rw c.in_default.is (stops left_of _ c.in_err-tested.field-0.0 c.from_residual.result (world_of c.tested.new.w) c.from_residual.ensures.1 (stop_then c.in_err-tested.field-0.0 _ _ _ (c.in_err-tested.ensures.means turns m k))) }

pub returns-then-branch : goal.returns-then-branch
returns-then-branch g c = record { means = λ turns m k. rw c.in_default.is (has_behind _ _ true (world_of c.tested.new.w) _ (subst (λ (b : Bool). tested (holds_at c.args.b.now c.args.names.now m turns (standing_of c.args.st.now) (placed_view c.args.tree.now)) (world_of c.args.w.now) ≡ Has b (world_of c.tested.new.w)) c.if-branch.true (c.in_ok-tested.ensures.means turns m k)) refl) }

pub returns-else-branch : goal.returns-else-branch
returns-else-branch g c = record { means = λ turns m k. rw c.in_default.is (has_behind _ _ false (world_of c.tested.new.w) _ (subst (λ (b : Bool). tested (holds_at c.args.b.now c.args.names.now m turns (standing_of c.args.st.now) (placed_view c.args.tree.now)) (world_of c.args.w.now) ≡ Has b (world_of c.tested.new.w)) c.if-branch.false (c.in_ok-tested.ensures.means turns m k)) refl) }
