use Rattle.jn_lsp_hover.proofs.Least.{by_the_least, none_of_refused}
use Rattle.jn_lsp_hover.proofs.law.hover_is_by_the_least_table.Goals as goal

pub returns-clause-solved : goal.returns-clause-solved
returns-clause-solved c = λ infer encoding files name position. by_the_least infer encoding files name position
    (c.files_have_one_front.ensures.parsed files) (c.files_have_one_typing.ensures.program infer files) (c.files_have_one_typing.ensures.apart infer files)
    c.least_signatures_are_unique.ensures c.rounds_give_the_least_table.ensures.unique

pub returns-clause-refused : goal.returns-clause-refused
returns-clause-refused c = λ infer encoding files name position. none_of_refused infer encoding files name position
    (c.files_have_one_front.ensures.parsed files) (c.files_have_one_typing.ensures.program infer files) (c.files_have_one_typing.ensures.apart infer files)
    c.least_signatures_are_unique.ensures c.rounds_give_the_least_table.ensures.unique
