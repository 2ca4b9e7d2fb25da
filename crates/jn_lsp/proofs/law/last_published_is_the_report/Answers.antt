use Rattle.jn_lsp.proofs.Upholding.{up_to_date}
use Rattle.jn_lsp.proofs.law.last_published_is_the_report.Goals as goal

pub returns : goal.returns
returns c = up_to_date
