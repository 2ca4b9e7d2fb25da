use Rattle.nullcheck_top.proofs.Noting.{one_list}
use Rattle.nullcheck_top.proofs.law.rows_have_one_list_of_notes.Goals as goal

pub returns : goal.returns
returns c infer files report one other x y = one_list infer c.texts_have_one_list_of_notes.ensures c.files_have_one_front.ensures.parsed c.least_signatures_are_unique.ensures c.rows_have_one_list_of_notes.ensures files report one other x y
