use Rattle.jn_front.proofs.Joining.{names_step, trees_step, few_step}
use Rattle.std.proofs.Common.{◌+◌, map, subst}
use Rattle.jn_front.specs.Numbered.{numbered_tree}
use Rattle.jn_front.specs.Outcomes.{AreOutcomes}
use Rattle.jn_front.proofs.First.{first_found, begun_step}
use Rattle.jn_front.proofs.gathering.merge_all.Goals as goal

pub join_next-requires-clause-found : goal.join_next-requires-clause-found
join_next-requires-clause-found c =
    let loop = c.loop-outcome in
    let found = loop.invariant.found in
    let first = first_found found.0 found.1 c.in-Some.outcome c.next.new.self.rest.items (subst (λ os. AreOutcomes found.0 found.1 os) c.in-Some.ensures.steps.0 found.2) in
    (found.0, first.0.0, first.0.1)

pub loop-outcome-preserved : goal.loop-outcome-preserved
loop-outcome-preserved c =
    let loop = c.loop-outcome in
    let rest = loop.outcome-iterator.rest.items in
    let next = c.next.new.self.rest.items in
    let is = c.in-Some.ensures.steps.0 in
    let few = few_step loop.names c.join_next.new.names c.in-Some.outcome rest next is c.in_ok-join_next.ensures.names loop.invariant.few loop.invariant.short in
    let found = loop.invariant.found in
    let first = first_found found.0 found.1 c.in-Some.outcome next (subst (λ os. AreOutcomes found.0 found.1 os) is found.2) in
    record {
      next = tt;
      finite = tt;
      names = names_step loop.names c.join_next.new.names _ c.in-Some.outcome rest next is c.in_ok-join_next.ensures.names loop.invariant.names;
      trees = trees_step loop.names c.join_next.new.names c.in-Some.outcome rest next (map numbered_tree loop.trees.items) (map numbered_tree c.join_next.new.trees.items) _ is c.in_ok-join_next.ensures.names c.in_ok-join_next.ensures.trees loop.invariant.trees;
      few = few.0;
      found = (found.0 + 1, first.1.0, first.1.1);
      begun = begun_step loop.names c.join_next.new.names c.in-Some.outcome loop.trees.items c.join_next.new.trees.items loop.invariant.begun c.in_ok-join_next.ensures.names c.in_ok-join_next.ensures.trees;
      short = few.1;
    }
