use Rattle.nullcheck_top.proofs.Running.{one_run}
use Rattle.nullcheck_top.proofs.law.files_have_one_run.Goals as goal

pub returns-clause-status : goal.returns-clause-status
returns-clause-status c infer files words steps one other text more x y = (one_run infer c.files_have_one_front.ensures.parsed files words steps one other text more x y).0

pub returns-clause-text : goal.returns-clause-text
returns-clause-text c infer files words steps one other text more x y = (one_run infer c.files_have_one_front.ensures.parsed files words steps one other text more x y).1
