use Rattle.std.proofs.Common.{Bool, subst}
use Rattle.jn_heap.specs.Values.{usual_limits}
use Rattle.jn_meaning.specs.Expressions as spec
use Rattle.jn_tree_world.specs.Outcomes.{Means}
use Rattle.jn_tree_world.specs.Worlds.{world_of}
use Rattle.jn_tree_expr.proofs.calls.call_behind.Goals as goal

pub returns-in-Text : goal.returns-in-Text
returns-in-Text g c = λ names m h. rw c.in-Text.is (c.text_call.ensures c.args.c.now.program.now names usual_limits.longest m (world_of c.args.w.now))

pub returns-in-Object : goal.returns-in-Object
returns-in-Object g c = λ names m h. rw c.in-Object.is (subst (λ (b : Bool). Means (spec.called_on c.args.c.now.program.now names usual_limits.longest m c.args.span c.in-Object.method.0 b c.args.receiver.now c.args.at c.args.arguments.now (world_of c.args.w.now)) c.call_on.result (world_of c.call_on.new.w)) c.is_private-direct.ensures (c.call_on.ensures names usual_limits.longest m h))
