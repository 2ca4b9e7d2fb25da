use Rattle.std.proofs.Common.{length, arith}
use Rattle.jn_lower_rows.proofs.Wholes.{no_types_left}
use Rattle.jn_lower_rows.proofs.entry.typed.Goals as goal

pub returns-else-parameters-bases-clause-all : goal.returns-else-parameters-bases-clause-all
returns-else-parameters-bases-clause-all c = no_types_left c.args.parameters.now c.args.bases.now (length c.args.bases.now) (omega arith)
