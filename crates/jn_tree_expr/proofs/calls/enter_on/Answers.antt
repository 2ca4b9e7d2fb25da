use Rattle.std.proofs.Common.{◌≡◌, ℕ, List, Option, ap, ◌∙◌, subst}
use Rattle.jn_heap.specs.Values.{Thing, Value}
use Rattle.jn_heap.specs.Calls.{selected}
use Rattle.jn_points.specs.declared.program.Program.{Program}
use Rattle.jn_machine.specs.Parts.{prepended}
use Rattle.jn_meaning.specs.Expressions as spec
use Rattle.jn_meaning.specs.Operations.{all_there}
use Rattle.jn_tree_world.specs.Outcomes.{Means}
use Rattle.jn_tree_world.specs.Worlds.{items_in, world_of}
use Rattle.jn_tree_expr.proofs.Evaluating.{this_front}
use Rattle.jn_tree_expr.proofs.calls.enter_on.Goals as goal

pub returns : goal.returns
returns g c = λ names longest m h.
    let own : c.selected-own.result ≡ selected c.args.c.now.program.now c.args.w.now.heap.items c.in-Some.place c.args.method.0 c.args.direct = c.selected-own.ensures ∙ ap (λ (p : Program). selected p c.deref.result.now c.in-Some.place c.args.method.0 c.args.direct) c.program.ensures ∙ ap (λ (heap : List Thing). selected c.args.c.now.program.now heap c.in-Some.place c.args.method.0 c.args.direct) c.deref.ensures.value in
    let all : items_in c.in_ok-values.values ≡ spec.with_this c.args.c.now.program.now names longest m c.in-Some.place (all_there c.args.arguments.now) = c.in_ok-values.ensures ∙ ap (λ (l : List Value). prepended l (all_there c.args.arguments.now)) c.in_ok-this.ensures ∙ this_front c.args.c.now.program.now names longest m c.in-Some.place (all_there c.args.arguments.now) in
    rw c.in-Some.is (subst (λ (k : Option ℕ). Means (spec.entered c.args.c.now.program.now names longest m k (spec.with_this c.args.c.now.program.now names longest m c.in-Some.place (all_there c.args.arguments.now)) (world_of c.args.w.now)) c.enter.result (world_of c.enter.new.w)) own (subst (λ (vs : Option (List Value)). Means (spec.entered c.args.c.now.program.now names longest m c.selected-own.result vs (world_of c.args.w.now)) c.enter.result (world_of c.enter.new.w)) all (c.enter.ensures c.args.c.now.program.now names longest m h)))
