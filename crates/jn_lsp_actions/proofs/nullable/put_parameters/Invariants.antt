use Rattle.std.proofs.Common.{◌≡◌, ◌++◌, drop}
use Rattle.jn_trees.specs.View.{parameter_views}
use Rattle.jn_annotate.specs.Puts.{insertions}
use Rattle.jn_lsp_actions.specs.Nulls as spec
use Rattle.jn_lsp_actions.proofs.nullable.put_parameters.Given as goal

abbrev pub invariant-loop-parameter : goal.invariant-loop-parameter
invariant-loop-parameter l = insertions l.puts.items ++ spec.null_parameters l.slot l.rest (parameter_views (drop l.parameter-index l.parameters)) l.left ≡ insertions l.fn.puts.items ++ spec.null_parameters l.slot l.tokens (parameter_views l.parameters) l.slots
