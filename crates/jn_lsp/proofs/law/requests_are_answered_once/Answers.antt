use Rattle.jn_lsp.proofs.Answering.{answered}
use Rattle.jn_lsp.proofs.law.requests_are_answered_once.Goals as goal

pub returns : goal.returns
returns c = answered
