use Rattle.std.proofs.Common.{ap}
use Rattle.jn_trees.specs.Trees.{OwnCallTree}
use Rattle.jn_parse_expr.proofs.Rows.{row_all}
use Rattle.jn_parse_expr.proofs.primary.own_call.Goals as goal

pub returns : goal.returns
returns c = ap (λ ts. OwnCallTree c.args.name.name ts) (row_all c.args.arguments)
