use Rattle.std.proofs.Common.{Bool, sym, ◌∙◌, subst}
use Rattle.jn_heap.specs.State.{value_at}
use Rattle.jn_meaning.specs.Expressions as spec
use Rattle.jn_tree_world.specs.Outcomes.{Means}
use Rattle.jn_tree_world.specs.Worlds.{world_of}
use Rattle.jn_tree_expr.proofs.calls.own_call.Goals as goal

pub returns-then-is_static : goal.returns-then-is_static
returns-then-is_static g c = λ names longest m h. rw c.in-Some.is (rw (sym c.is_static.ensures ∙ c.if-is_static.true) (c.call_static.ensures names longest m h))

pub returns : goal.returns
returns g c = λ names longest m h. rw c.in-Some.is (rw (sym c.is_static.ensures ∙ c.if-is_static.false) (subst (λ (b : Bool). Means (spec.called_on c.args.c.now.program.now names longest m c.args.span c.in-Some.own.0 b (value_at c.args.w.now.locals.items 0) c.args.at c.args.arguments.now (world_of c.args.w.now)) c.call_on_this.result (world_of c.call_on_this.new.w)) c.is_private-direct.ensures (c.call_on_this.ensures names longest m h)))
