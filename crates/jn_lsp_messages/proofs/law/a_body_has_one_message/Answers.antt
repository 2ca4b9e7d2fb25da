use Rattle.jn_lsp_messages.proofs.Whole.{one_message}
use Rattle.jn_lsp_messages.proofs.law.a_body_has_one_message.Goals as goal

pub returns : goal.returns
returns c = one_message
