use Rattle.std.proofs.Common.{◌≡◌, ℕ, drop, ◌-◌}
use Rattle.jn_places.specs.PlacedView.{placed_statement, placed_statements, placed_view, placed_views}
use Rattle.jn_meaning.specs.Expressions.{Caller}
use Rattle.jn_meaning.specs.Worlds.{then_do}
use Rattle.jn_meaning.specs.Statements.{behind, done_while, endless, repeated, then_onward}
use Rattle.jn_tree_world.specs.Worlds.{world_of}
use Rattle.jn_tree_simple.specs.Doing.{IsHidden, each_holds, each_moves, each_takes, effects_at, holds_at}
use Rattle.jn_tree_simple.specs.Standings.{standing_of}
use Rattle.jn_tree_stmt.specs.Running.{Grown, all_run_at, runs_at}
use Rattle.jn_tree_stmt.proofs.statements.+executing.Given as goal

abbrev pub invariant-execute_all-loop-tree : goal.invariant-execute_all-loop-tree
invariant-execute_all-loop-tree g l = (Grown l.initial.st.scope l.st.scope) × ((m : Caller) → g.F.Enters.keeps l.call m → all_run_at l.b l.names m l.turns (standing_of l.initial.st) (placed_statements l.trees) (world_of l.initial.w) ≡ all_run_at l.b l.names m l.turns (standing_of l.st) (placed_statements (drop l.tree-index l.trees)) (world_of l.w))

abbrev pub invariant-repeat-loop : goal.invariant-repeat-loop
invariant-repeat-loop g l = (standing_of l.st ≡ standing_of l.initial.st) × ((m : Caller) → g.F.Enters.keeps l.call m → repeated l.turns (holds_at l.b l.names m l.turns (standing_of l.initial.st) (placed_view l.condition)) (runs_at l.b l.names m l.turns (standing_of l.initial.st) (placed_statement l.body)) (effects_at l.b l.names m l.turns (behind l.b.program.now (standing_of l.initial.st) (placed_statement l.body)) (placed_views l.updates)) (world_of l.initial.w) ≡ repeated (l.turns - l.counter) (holds_at l.b l.names m l.turns (standing_of l.initial.st) (placed_view l.condition)) (runs_at l.b l.names m l.turns (standing_of l.initial.st) (placed_statement l.body)) (effects_at l.b l.names m l.turns (behind l.b.program.now (standing_of l.initial.st) (placed_statement l.body)) (placed_views l.updates)) (world_of l.w))

abbrev pub invariant-repeat_endless-loop : goal.invariant-repeat_endless-loop
invariant-repeat_endless-loop g l = (standing_of l.st ≡ standing_of l.initial.st) × ((m : Caller) → g.F.Enters.keeps l.call m → endless l.turns (runs_at l.b l.names m l.turns (standing_of l.initial.st) (placed_statement l.body)) (effects_at l.b l.names m l.turns (behind l.b.program.now (standing_of l.initial.st) (placed_statement l.body)) (placed_views l.updates)) (world_of l.initial.w) ≡ endless (l.turns - l.counter) (runs_at l.b l.names m l.turns (standing_of l.initial.st) (placed_statement l.body)) (effects_at l.b l.names m l.turns (behind l.b.program.now (standing_of l.initial.st) (placed_statement l.body)) (placed_views l.updates)) (world_of l.w))

abbrev pub invariant-repeat_do-loop : goal.invariant-repeat_do-loop
invariant-repeat_do-loop g l = (standing_of l.st ≡ standing_of l.initial.st) × ((m : Caller) → g.F.Enters.keeps l.call m → done_while l.turns (runs_at l.b l.names m l.turns (standing_of l.initial.st) (placed_statement l.body)) (holds_at l.b l.names m l.turns (behind l.b.program.now (standing_of l.initial.st) (placed_statement l.body)) (placed_view l.condition)) (world_of l.initial.w) ≡ done_while (l.turns - l.counter) (runs_at l.b l.names m l.turns (standing_of l.initial.st) (placed_statement l.body)) (holds_at l.b l.names m l.turns (behind l.b.program.now (standing_of l.initial.st) (placed_statement l.body)) (placed_view l.condition)) (world_of l.w))

abbrev pub invariant-repeat_each-loop : goal.invariant-repeat_each-loop
invariant-repeat_each-loop g l = (standing_of l.st ≡ standing_of l.initial.st) × ((m : Caller) → g.F.Enters.keeps l.call m → (r : ℕ) → IsHidden l.locals r → repeated l.turns (each_holds l.b l.names m l.turns l.locals.at r) (λ w. then_do (each_takes l.b l.names m l.turns l.locals.at r w) (λ x w. runs_at l.b l.names m l.turns (standing_of l.initial.st) (placed_statement l.body) w)) (λ w. then_onward (each_moves l.b l.names m l.turns l.locals.at r w)) (world_of l.initial.w) ≡ repeated (l.turns - l.counter) (each_holds l.b l.names m l.turns l.locals.at r) (λ w. then_do (each_takes l.b l.names m l.turns l.locals.at r w) (λ x w. runs_at l.b l.names m l.turns (standing_of l.initial.st) (placed_statement l.body) w)) (λ w. then_onward (each_moves l.b l.names m l.turns l.locals.at r w)) (world_of l.w))
