use Rattle.std.proofs.Common.{◌≡◌, ℕ, Option, sym, ap, ◌∙◌, ◌+◌, subst}
use Rattle.jn_points.specs.declared.program.Program.{Program}
use Rattle.jn_heap.specs.Values.{Value}
use Rattle.jn_heap.specs.State.{value_at as held_at}
use Rattle.jn_meaning.specs.Worlds.{Has}
use Rattle.jn_meaning.specs.Operations.{ElementPlace, read_place, write_local}
use Rattle.jn_tree_world.specs.Outcomes.{Means}
use Rattle.jn_tree_world.specs.Worlds.{world_of}
use Rattle.jn_tree_world.proofs.Binding.{bound}
use Rattle.jn_tree_simple.proofs.Founding.{has_is}
use Rattle.jn_tree_simple.proofs.each.take.Goals as goal

pub returns : goal.returns
returns c = λ names turns m r h.
    let array_is : c.in_ok-array.array ≡ held_at c.args.w.now.locals.items r = sym (ap (held_at c.args.w.now.locals.items) (sym h.array) ∙ has_is _ _ _ _ c.in_ok-array.ensures) in
    let index_is : c.in_ok-index.index ≡ held_at c.args.w.now.locals.items (r + 1) = sym (ap (held_at c.args.w.now.locals.items) (sym h.index) ∙ has_is _ _ _ _ c.in_ok-index.ensures) in
    bound (λ x. x) _ _ c.in_ok-given.given (world_of c.args.w.now) c.set_local.result (world_of c.set_local.new.self)
    (subst (λ (p : Program). read_place p (ElementPlace (held_at c.args.w.now.locals.items r) c.args.hidden.at (held_at c.args.w.now.locals.items (r + 1))) c.args.hidden.at (world_of c.args.w.now) ≡ Has c.in_ok-given.given (world_of c.args.w.now)) c.program.ensures (subst (λ (a : Option Value). read_place c.program.result.now (ElementPlace a c.args.hidden.at (held_at c.args.w.now.locals.items (r + 1))) c.args.hidden.at (world_of c.args.w.now) ≡ Has c.in_ok-given.given (world_of c.args.w.now)) array_is (subst (λ (i : Option Value). read_place c.program.result.now (ElementPlace c.in_ok-array.array c.args.hidden.at i) c.args.hidden.at (world_of c.args.w.now) ≡ Has c.in_ok-given.given (world_of c.args.w.now)) index_is c.in_ok-given.ensures)))
    (subst (λ (k : ℕ). Means (write_local c.args.b.now.program.now (world_of c.args.w.now) k c.in_ok-given.given) c.set_local.result (world_of c.set_local.new.self)) h.item (c.set_local.ensures c.args.b.now.program.now))
