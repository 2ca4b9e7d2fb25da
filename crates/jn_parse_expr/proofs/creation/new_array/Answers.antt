use Rattle.std.proofs.Common.{ap}
use Rattle.jn_trees.specs.Trees.{ArrayOfTree}
use Rattle.jn_trees.specs.View.{annotation_names, base_view}
use Rattle.jn_parse_expr.proofs.Rows.{row_all}
use Rattle.jn_parse_expr.proofs.creation.new_array.Goals as goal

pub returns : goal.returns
returns c = ap (λ ts. ArrayOfTree (annotation_names c.args.element.value.annotations.items) (base_view c.args.element.value.base) ts) (row_all c.args.elements)
