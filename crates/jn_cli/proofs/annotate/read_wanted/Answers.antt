use Rattle.std.proofs.Common.{◌∙◌, sym}
use Rattle.jn_cli.proofs.Asking.{few_files}
use Rattle.jn_cli.proofs.annotate.read_wanted.Goals as goal

pub returns-clause-few : goal.returns-clause-few
returns-clause-few c = few_files c.in-Ok.options c.wanted_from.result (sym c.are_refused.ensures ∙ c.if-are_refused.false) c.wanted_from.ensures
