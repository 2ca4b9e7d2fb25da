use Rattle.std.proofs.Common.{ap}
use Rattle.jn_command.specs.declared.report.Report.TheVariants.{Refused}
use Rattle.nullcheck_top.proofs.check.refuse_number.Goals as goal

pub returns-clause-report : goal.returns-clause-report
returns-clause-report c infer files many = c.in_ok-rows.ensures.phase infer files many
