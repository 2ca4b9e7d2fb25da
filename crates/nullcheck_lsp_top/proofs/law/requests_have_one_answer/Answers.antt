use Rattle.nullcheck_lsp_top.proofs.Answering.{answered_once}
use Rattle.nullcheck_lsp_top.proofs.law.requests_have_one_answer.Goals as goal

pub returns : goal.returns
returns c = answered_once c.requests_are_answered_once.ensures
