use Rattle.std.proofs.Common.{ap}
use Rattle.jn_trees.specs.Trees.{CallTree}
use Rattle.jn_trees.specs.View.{view}
use Rattle.jn_parse_expr.proofs.Rows.{row_all}
use Rattle.jn_parse_expr.proofs.tail.with_call.Goals as goal

pub returns : goal.returns
returns c = ap (λ ts. CallTree (view c.args.target.value) c.args.name.name ts) (row_all c.args.arguments)
