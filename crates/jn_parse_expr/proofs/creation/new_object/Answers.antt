use Rattle.std.proofs.Common.{ap}
use Rattle.jn_trees.specs.Trees.{NewTree}
use Rattle.jn_parse_expr.proofs.Rows.{row_all}
use Rattle.jn_parse_expr.proofs.creation.new_object.Goals as goal

pub returns : goal.returns
returns c = ap (λ ts. NewTree c.args.class.name ts) (row_all c.args.arguments)
