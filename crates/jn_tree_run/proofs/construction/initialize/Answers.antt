use Rattle.std.proofs.Common.{◌≡◌, ℕ, Some, sym, ap, ◌∙◌, subst}
use Rattle.jn_trees.specs.declared.expression.Expr.{Expr}
use Rattle.jn_heap.specs.Values.{usual_limits}
use Rattle.jn_lowering.specs.Bodies.{class}
use Rattle.jn_meaning.specs.Bodies as spec
use Rattle.jn_places.specs.PlacedView.{placed_view}
use Rattle.jn_points.specs.Members.{declared_field}
use Rattle.jn_tree_world.specs.Outcomes.{MeansAs}
use Rattle.jn_tree_world.specs.Worlds.{world_of}
use Rattle.jn_tree_simple.specs.Standings.{onward_of}
use Rattle.jn_tree_run.proofs.construction.initialize.Goals as goal

pub returns-in-Some-declared_field : goal.returns-in-Some-declared_field
returns-in-Some-declared_field g c = λ turns k m own h.
    let there : declared_field c.args.b.now.program.now (class c.args.b.now.program.now k) c.args.tree.now.name.name.0 (class c.args.b.now.program.now k) ≡ Some c.in-Some-declared_field.field.0 = ap (λ (n : ℕ). declared_field c.args.b.now.program.now n c.args.tree.now.name.name.0 n) (sym own) ∙ c.in-Some-declared_field.ensures in
    rw c.in-Some.is (rw there (subst (λ (x : Expr). MeansAs onward_of (spec.writes_field c.args.b.now.program.now c.args.names.now usual_limits.longest m turns k (Some c.in-Some-declared_field.field.0) c.args.tree.now.name.span (placed_view x) (world_of c.args.w.now)) c.write_first.result (world_of c.write_first.new.w)) c.deref.ensures (c.write_first.ensures turns k m own h)))
