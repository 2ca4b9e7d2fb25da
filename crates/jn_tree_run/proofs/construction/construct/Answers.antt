use Rattle.std.proofs.Common.{ℕ, List, ap, ◌∙◌, subst, drop, arith}
use Rattle.jn_trees.specs.declared.expression.Expr.{Expr}
use Rattle.jn_heap.specs.Values.{usual_limits}
use Rattle.jn_lowering.specs.Scopes.{parent_class}
use Rattle.jn_meaning.specs.Bodies as spec
use Rattle.jn_places.specs.PlacedView.{placed_statements, placed_views}
use Rattle.jn_points.specs.Lookup.{class_info, parent_of}
use Rattle.jn_scopes.specs.Views.{scope_in}
use Rattle.jn_tree_world.specs.Outcomes.{MeansAs}
use Rattle.jn_tree_world.specs.Worlds.{world_of}
use Rattle.jn_tree_simple.specs.Standings.{onward_of}
use Rattle.jn_tree_run.proofs.Entering.{construction_other, stated_first, stated_none}
use Rattle.jn_tree_run.proofs.construction.construct.Goals as goal

pub returns-in_default : goal.returns-in_default
returns-in_default g c = λ turns k m own h. rw (stated_none c.args.body.now (omega (arith, c.in_default.len_below))) (c.call_unwritten.ensures turns k m own h)

pub returns-in-ThisCall : goal.returns-in-ThisCall
returns-in-ThisCall g c = λ turns k m own h.
    rw (stated_first c.args.body.now c.first-item.result (omega (arith, c.in-len1-up.len_at_least)) c.first-item.is) (rw c.in-ThisCall.is
    (subst (λ (n : ℕ). MeansAs onward_of (spec.ctor_call c.args.c.now.program.now c.args.names.now usual_limits.longest m turns k (scope_in c.args.c.now) n (placed_views c.in-ThisCall.arguments.items) (world_of c.args.w.now)) c.call_ctor.result (world_of c.call_ctor.new.w)) own
    (subst (λ (es : List Expr). MeansAs onward_of (spec.ctor_call c.args.c.now.program.now c.args.names.now usual_limits.longest m turns k (scope_in c.args.c.now) c.args.c.now.class.0 (placed_views es) (world_of c.args.w.now)) c.call_ctor.result (world_of c.call_ctor.new.w)) c.deref.ensures.value (c.call_ctor.ensures turns k m own h))))

pub returns-in-SuperCall : goal.returns-in-SuperCall
returns-in-SuperCall g c = λ turns k m own h.
    rw (stated_first c.args.body.now c.first-item.result (omega (arith, c.in-len1-up.len_at_least)) c.first-item.is) (rw c.in-SuperCall.is
    (subst (λ (n : ℕ). MeansAs onward_of (spec.ctor_call c.args.c.now.program.now c.args.names.now usual_limits.longest m turns k (scope_in c.args.c.now) n (placed_views c.in-SuperCall.arguments.items) (world_of c.args.w.now)) c.call_ctor-in-SuperCall.result (world_of c.call_ctor-in-SuperCall.new.w)) (c.parent_or_object-parent.ensures ∙ ap (λ (n : ℕ). parent_class c.args.c.now.program.now (parent_of (class_info c.args.c.now.program.now n))) own)
    (subst (λ (es : List Expr). MeansAs onward_of (spec.ctor_call c.args.c.now.program.now c.args.names.now usual_limits.longest m turns k (scope_in c.args.c.now) c.parent_or_object-parent.result.0 (placed_views es) (world_of c.args.w.now)) c.call_ctor-in-SuperCall.result (world_of c.call_ctor-in-SuperCall.new.w)) c.deref-in-SuperCall.ensures.value (c.call_ctor-in-SuperCall.ensures turns k m own h))))

pub returns-in_default-first : goal.returns-in_default-first
returns-in_default-first g c = λ turns k m own h.
    rw (stated_first c.args.body.now c.first-item.result (omega (arith, c.in-len1-up.len_at_least)) c.first-item.is)
    (rw (construction_other c.args.c.now.program.now c.args.names.now usual_limits.longest m turns k (scope_in c.args.c.now) c.first-item.result (placed_statements (drop 1 c.args.body.now)) (world_of c.args.w.now) c.in_default-first.not-ThisCall c.in_default-first.not-SuperCall) (c.call_unwritten-in_default-first.ensures turns k m own h))
