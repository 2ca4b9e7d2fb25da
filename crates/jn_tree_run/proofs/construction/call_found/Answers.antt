use Rattle.std.proofs.Common.{Option, sym, subst}
use Rattle.jn_heap.specs.Values.{Value}
use Rattle.jn_heap.specs.State.{value_at}
use Rattle.jn_meaning.specs.Bodies as spec
use Rattle.jn_meaning.specs.Operations.{all_there}
use Rattle.jn_tree_world.specs.Outcomes.{MeansAs}
use Rattle.jn_tree_world.specs.Worlds.{world_of}
use Rattle.jn_tree_simple.specs.Standings.{onward_of}
use Rattle.jn_tree_expr.proofs.Evaluating.{same_value}
use Rattle.jn_tree_run.proofs.construction.call_found.Goals as goal

pub returns-in_ok-this-in-Some : goal.returns-in_ok-this-in-Some
returns-in_ok-this-in-Some g c = λ P names longest turns k m h. rw c.in-Some.is (subst (λ (x : Option Value). MeansAs onward_of (spec.on_this P names longest m turns k x (all_there c.args.arguments.now) c.in-Some.found.0 (world_of c.args.w.now)) c.call_on_this.result (world_of c.call_on_this.new.w)) (sym (same_value (value_at c.args.w.now.locals.items 0) c.in_ok-this-in-Some.this (world_of c.args.w.now) (world_of c.args.w.now) c.in_ok-this-in-Some.ensures)) (c.call_on_this.ensures P names longest turns k m h))
