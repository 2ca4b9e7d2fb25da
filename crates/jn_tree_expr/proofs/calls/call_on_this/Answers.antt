use Rattle.std.proofs.Common.{Option, sym, subst}
use Rattle.jn_heap.specs.Values.{Value}
use Rattle.jn_heap.specs.State.{value_at}
use Rattle.jn_meaning.specs.Expressions as spec
use Rattle.jn_tree_world.specs.Outcomes.{Means}
use Rattle.jn_tree_world.specs.Worlds.{world_of}
use Rattle.jn_tree_expr.proofs.Evaluating.{same_value}
use Rattle.jn_tree_expr.proofs.calls.call_on_this.Goals as goal

pub returns : goal.returns
returns g c = λ names longest m h. subst (λ (x : Option Value). Means (spec.called_on c.args.c.now.program.now names longest m c.args.span c.args.method.0 c.args.direct x c.args.at c.args.arguments.now (world_of c.args.w.now)) c.call_on.result (world_of c.call_on.new.w)) (sym (same_value (value_at c.args.w.now.locals.items 0) c.in_ok-this.this (world_of c.args.w.now) (world_of c.args.w.now) c.in_ok-this.ensures)) (c.call_on.ensures names longest m h)
