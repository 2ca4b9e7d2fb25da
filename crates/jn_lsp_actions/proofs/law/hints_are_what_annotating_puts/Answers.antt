use Rattle.jn_lsp_actions.proofs.Annotated.{of_annotated}
use Rattle.jn_lsp_actions.proofs.law.hints_are_what_annotating_puts.Goals as goal

pub returns : goal.returns
returns c = of_annotated
