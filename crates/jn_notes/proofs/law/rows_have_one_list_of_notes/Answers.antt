use Rattle.jn_notes.proofs.Alike.{one_list}
use Rattle.jn_notes.proofs.law.rows_have_one_list_of_notes.Goals as goal

pub returns : goal.returns
returns c = λ P names s rows one other h i. one_list P names s (c.rounds_give_the_least_table.ensures.unique P s) (c.first_chains_are_unique.ensures P s) (c.first_pairs_are_unique.ensures P s) rows one other h i
