use Rattle.std.proofs.Common.{ap}
use Rattle.jn_meaning.specs.Statements.{Standing, behind_declaration}
use Rattle.jn_places.specs.PlacedView.{placed_local}
use Rattle.jn_tree_world.specs.Worlds.{world_of}
use Rattle.jn_tree_world.proofs.Binding.{stops}
use Rattle.jn_tree_simple.specs.Standings.{flow_of, standing_of}
use Rattle.jn_tree_stmt.proofs.Extending.{declaration_grows, grown_to}
use Rattle.jn_tree_stmt.proofs.simple.declare.Goals as goal

pub returns-in_err-declaration-clause-means : goal.returns-in_err-declaration-clause-means
returns-in_err-declaration-clause-means g c = λ turns m k. stops flow_of _ c.in_err-declaration.field-0.0 c.from_residual.result (world_of c.declaration.new.w) c.from_residual.ensures.1 (c.in_err-declaration.ensures.means turns m k)

pub returns-clause-scope : goal.returns-clause-scope
returns-clause-scope g c = grown_to c.args.st.now.scope (behind_declaration c.args.b.now.program.now (standing_of c.args.st.now) (placed_local c.args.tree.now)).scope c.declaration.new.st.scope (declaration_grows c.args.b.now.program.now (standing_of c.args.st.now) (placed_local c.args.tree.now)) (ap (λ (s : Standing). s.scope) c.in_ok-declaration.ensures.behind)
