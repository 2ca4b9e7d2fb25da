use Rattle.nullcheck_lsp_top.proofs.UpToDate.{up_to_date}
use Rattle.nullcheck_lsp_top.proofs.law.published_is_the_report.Goals as goal

pub returns : goal.returns
returns c = up_to_date c.last_published_is_the_report.ensures
