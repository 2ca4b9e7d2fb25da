use Rattle.jn_least_law.proofs.Lowering.{accepted_under}
use Rattle.jn_least_law.proofs.law.what_is_accepted_is_accepted_under_the_least.Goals as goal

pub returns : goal.returns
returns c P s t is kept least = accepted_under P s t is kept least (c.least_signatures_keep_what_is_written.ensures P t is.regular least)
