use Rattle.std.proofs.Common.{◌≡◌, ℕ, subst, arith}
use Rattle.jn_places.specs.PlacedView.{placed_declarator}
use Rattle.jn_heap.specs.Values.{usual_limits}
use Rattle.jn_meaning.specs.Statements as spec
use Rattle.jn_meaning.specs.Statements.{Standing}
use Rattle.jn_tree_world.specs.Outcomes.{MeansAs}
use Rattle.jn_tree_world.specs.Worlds.{world_of}
use Rattle.jn_tree_simple.specs.Standings.{onward_of, standing_of}
use Rattle.jn_tree_simple.proofs.pieces.declarator.Goals as goal

pub returns-clause-means : goal.returns-clause-means
returns-clause-means g c = λ turns m h.
    let at : c.in_ok-local.local.0 ≡ c.args.st.now.count = omega (arith, c.in_ok-local.ensures) in
    subst (λ (s : Standing). MeansAs onward_of (spec.initialized c.args.b.now.program.now c.args.names.now usual_limits.longest m turns c.args.b.now.class.0 s c.args.st.now.count (placed_declarator c.args.tree.now).value (world_of c.args.w.now)) c.initialize.result (world_of c.initialize.new.w)) c.in_ok-declare_name.ensures (subst (λ (k : ℕ). MeansAs onward_of (spec.initialized c.args.b.now.program.now c.args.names.now usual_limits.longest m turns c.args.b.now.class.0 (standing_of c.declare_name.new.st) k (placed_declarator c.args.tree.now).value (world_of c.args.w.now)) c.initialize.result (world_of c.initialize.new.w)) at (c.initialize.ensures.means turns m h))
