use Rattle.jn_report.proofs.OneReport.{one_report}
use Rattle.jn_report.proofs.law.files_have_one_report.Goals as goal

pub returns : goal.returns
returns c infer files one other x y =
    let typing = c.files_have_one_typing.ensures in
    one_report typing.rows typing.program typing.apart c.least_signatures_are_unique.ensures c.rounds_give_the_least_table.ensures.unique c.rows_have_one_order.ensures infer files one other x y
