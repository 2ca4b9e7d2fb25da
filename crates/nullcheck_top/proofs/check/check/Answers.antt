use Rattle.nullcheck_top.proofs.Reporting.{safe_found}
use Rattle.nullcheck_top.proofs.check.check.Goals as goal

pub returns-clause-safe : goal.returns-clause-safe
returns-clause-safe g c = safe_found c.args.infer (c.accepted_files_are_safe.ensures.safe c.args.infer) c.args.reads.now c.in_ok-rows.field-0.names c.in_ok-found.found c.in_ok-found.ensures.found
