use Rattle.jn_env.proofs.lists.FieldNumbers.of_vec.Goals as goal

pub invariant_of-result : goal.invariant_of-result
invariant_of-result c = c.none.ensures _
