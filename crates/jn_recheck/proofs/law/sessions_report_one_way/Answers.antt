use Rattle.jn_recheck.proofs.OneReport.{one_outcome}
use Rattle.jn_recheck.proofs.law.sessions_report_one_way.Goals as goal

pub returns : goal.returns
returns c = record {
  report = c.files_have_one_report.ensures;
  outcome = λ before one other rows others places seconds verdict second files count made bodies x y. one_outcome c.files_have_one_report.ensures c.files_have_one_typing.ensures.program c.least_signatures_are_unique.ensures before one other rows others places seconds verdict second files count made bodies x y;
}
