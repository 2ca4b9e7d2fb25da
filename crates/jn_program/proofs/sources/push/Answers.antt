use Rattle.std.proofs.Common.{ap, ◌∙◌}
use Rattle.jn_lower_stmt.specs.Sources.{sources_of}
use Rattle.jn_program.proofs.Numbers.{sources_more}
use Rattle.jn_program.proofs.sources.push.Goals as goal

pub returns-in-Ok : goal.returns-in-Ok
returns-in-Ok c = ap sources_of c.in-Ok.ensures.items ∙ sources_more c.args.sources.now.items c.args.source
