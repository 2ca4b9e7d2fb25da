use Rattle.std.proofs.Common.{◌<◌, ◌∙◌, length, arith}
use Rattle.jn_places.specs.PlacedView.{placed_init, placed_statement}
use Rattle.jn_phase_notes.specs.Earlier.{init_names, names_behind}
use Rattle.jn_refused_notes.proofs.Shown.{on_ok}
use Rattle.jn_phase_notes.proofs.Scopes.{back_again, begins_more, begins_same, begins_self, block_seconds, for_scope, next_seconds}
use Rattle.jn_phase_notes.proofs.repeated.+repeating.Goals as goal

pub inside-returns-clause-scope : goal.inside-returns-clause-scope
inside-returns-clause-scope t c = back_again c.args.scope.now _ c.back_to.new.self c.statement.new.scope c.len-count.result c.back_to.ensures c.len-count.ensures c.in_ok-statement.ensures.scope (begins_more c.args.scope.now c.args.scope.now (names_behind (placed_statement c.args.tree.now)) (begins_self c.args.scope.now))

pub statement-returns-in-Block-clause-found : goal.statement-returns-in-Block-clause-found
statement-returns-in-Block-clause-found t c = on_ok c.statements.result (λ h. block_seconds c.args.scope.now c.args.tree.now c.in-Block.inner c.in-Block.span _ _ _ c.in-Block.is c.deref.ensures.value h) c.statements.ensures.found

pub statement-returns-in_ok-inside-in-For-clause-scope : goal.statement-returns-in_ok-inside-in-For-clause-scope
statement-returns-in_ok-inside-in-For-clause-scope t c =
    for_scope c.args.scope.now c.back_to.new.self c.args.tree.now c.in-For.head c.in-For.body c.in-For.span c.in-For.is
    (back_again c.args.scope.now _ c.back_to.new.self c.inside-in-For.new.scope c.len-count.result c.back_to.ensures c.len-count.ensures (c.in_ok-inside-in-For.ensures.scope ∙ c.in_ok-init-in-For.ensures.scope) (begins_more c.args.scope.now c.args.scope.now (init_names (placed_init c.deref-in-For.result.now.init)) (begins_self c.args.scope.now)))

pub statements-loop-tree-preserved : goal.statements-loop-tree-preserved
statements-loop-tree-preserved t c =
    let lt : c.loop-tree.tree-index < length c.args.trees.now = omega (arith, c.loop-tree-test.true) in
    (begins_same c.args.scope.now _ c.statement.new.scope c.in_ok-statement.ensures.scope (begins_more c.args.scope.now c.loop-tree.scope (names_behind (placed_statement c.tree-item.result)) c.loop-tree.invariant.0), next_seconds c.args.trees.now c.loop-tree.tree-index c.tree-item.result c.loop-tree.scope c.statement.new.scope c.loop-tree.found c.statement.new.found _ lt c.tree-item.is c.in_ok-statement.ensures.scope c.in_ok-statement.ensures.found c.loop-tree.invariant.1)
