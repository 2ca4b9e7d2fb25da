use Rattle.std.proofs.Common.{ap}
use Rattle.jn_trees.specs.Trees.{SuperCallTree}
use Rattle.jn_parse_expr.proofs.Rows.{row_all}
use Rattle.jn_parse_expr.proofs.primary.super_method.Goals as goal

pub returns : goal.returns
returns c = ap (λ ts. SuperCallTree c.args.name.name ts) (row_all c.args.arguments)
