use Rattle.jn_env.proofs.lists.FactKeys.of_vec.Goals as goal

pub invariant_of-result : goal.invariant_of-result
invariant_of-result c = (c.none.ensures _, c.none-2.ensures _)
