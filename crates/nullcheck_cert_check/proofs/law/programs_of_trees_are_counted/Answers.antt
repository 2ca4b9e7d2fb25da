use Rattle.nullcheck_cert_check.proofs.Counted.{program_counted}
use Rattle.nullcheck_cert_check.proofs.law.programs_of_trees_are_counted.Goals as goal

pub returns : goal.returns
returns c = program_counted
