use Rattle.std.proofs.Common.{◌≡◌, ℕ, Option, sym, ap, ◌∙◌, ◌+◌, subst}
use Rattle.jn_points.specs.declared.point.Operator.TheVariants.{Add}
use Rattle.jn_heap.specs.Values.{Value}
use Rattle.jn_heap.specs.State.{prim_of, value_at as held_at}
use Rattle.jn_heap.specs.Steps.{binary_of}
use Rattle.jn_meaning.specs.Worlds.{Has, got}
use Rattle.jn_meaning.specs.Operations.{write_local}
use Rattle.jn_tree_world.specs.Outcomes.{Means}
use Rattle.jn_tree_world.specs.Worlds.{world_of}
use Rattle.jn_tree_world.proofs.Binding.{bound}
use Rattle.jn_tree_simple.proofs.Founding.{has_is}
use Rattle.jn_tree_simple.proofs.each.move_on.Goals as goal

pub returns : goal.returns
returns c = λ names turns m r h.
    let is : held_at c.args.w.now.locals.items (r + 1) ≡ c.in_ok-index.index = ap (held_at c.args.w.now.locals.items) (sym h.index) ∙ has_is _ _ _ _ c.in_ok-index.ensures in
    bound (λ x. x) _ _ c.in_ok-next.next (world_of c.args.w.now) c.set_local.result (world_of c.set_local.new.self)
    (subst (λ (v : Option Value). got c.args.hidden.at (binary_of Add (prim_of (held_at c.args.w.now.locals.items (r + 1))) (prim_of v)) (world_of c.args.w.now) ≡ Has c.in_ok-next.next (world_of c.args.w.now)) c.number.ensures (subst (λ (u : Option Value). got c.args.hidden.at (binary_of Add (prim_of u) (prim_of c.number.result)) (world_of c.args.w.now) ≡ Has c.in_ok-next.next (world_of c.args.w.now)) (sym is) (c.in_ok-next.ensures (world_of c.args.w.now))))
    (subst (λ (k : ℕ). Means (write_local c.args.b.now.program.now (world_of c.args.w.now) k c.in_ok-next.next) c.set_local.result (world_of c.set_local.new.self)) h.index (c.set_local.ensures c.args.b.now.program.now))
