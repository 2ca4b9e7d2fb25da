use Rattle.std.proofs.Common.{◌≡◌, ℕ, List, Option, ap, ◌∙◌, subst}
use Rattle.jn_heap.specs.Values.{Value, usual_limits}
use Rattle.jn_meaning.specs.Bodies as spec
use Rattle.jn_meaning.specs.Expressions.{evaluated}
use Rattle.jn_meaning.specs.Worlds.{Has}
use Rattle.jn_places.specs.PlacedView.{placed_views}
use Rattle.jn_points.specs.Members.{constructor_of}
use Rattle.jn_scopes.proofs.Seen.{count_views}
use Rattle.jn_scopes.specs.Views.{scope_in}
use Rattle.jn_tree_expr.proofs.Evaluating.{numbered}
use Rattle.jn_tree_expr.specs.Meaning.{number_of}
use Rattle.jn_tree_world.proofs.Binding.{bound}
use Rattle.jn_tree_world.specs.Outcomes.{MeansAs}
use Rattle.jn_tree_world.specs.Worlds.{world_of}
use Rattle.jn_tree_simple.specs.Standings.{onward_of}
use Rattle.jn_tree_run.proofs.construction.call_ctor.Goals as goal

pub returns : goal.returns
returns g c = λ turns k m own h.
    bound onward_of _ _ c.in_ok-values.values.items (world_of c.evaluated.new.w) c.call_found.result (world_of c.call_found.new.w)
    (subst (λ (n : ℕ). evaluated c.args.c.now.program.now c.args.names.now usual_limits.longest m n (scope_in c.args.c.now) (placed_views c.args.arguments.now) (world_of c.args.w.now) ≡ Has c.in_ok-values.values.items (world_of c.evaluated.new.w)) own (c.in_ok-values.ensures m h))
    (subst (λ (o : Option ℕ). MeansAs onward_of (spec.called_ctor c.args.c.now.program.now c.args.names.now usual_limits.longest m turns k o c.in_ok-values.values.items (world_of c.evaluated.new.w)) c.call_found.result (world_of c.call_found.new.w)) (numbered _ _ c.constructor_of-ctor.ensures ∙ ap (λ (n : ℕ). constructor_of c.args.c.now.program.now c.args.class.0 n) (count_views c.args.arguments.now))
    (subst (λ (xs : List (Option Value)). MeansAs onward_of (spec.called_ctor c.args.c.now.program.now c.args.names.now usual_limits.longest m turns k (number_of c.constructor_of-ctor.result) xs (world_of c.evaluated.new.w)) c.call_found.result (world_of c.call_found.new.w)) c.deref.ensures.value (c.call_found.ensures c.args.c.now.program.now c.args.names.now usual_limits.longest turns k m h)))
