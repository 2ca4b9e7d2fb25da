use Rattle.std.proofs.Common.{◌≡◌, ◌++◌, drop}
use Rattle.std.specs.Prelude.{map}
use Rattle.jn_trees.specs.View.{type_view}
use Rattle.jn_annotate.specs.Puts.{insertions}
use Rattle.jn_lsp_actions.specs.Nulls as spec
use Rattle.jn_lsp_actions.proofs.nullable.put_types.Given as goal

abbrev pub invariant-loop-declared : goal.invariant-loop-declared
invariant-loop-declared l = insertions l.puts.items ++ spec.null_types l.slot l.rest (map type_view (drop l.declared-index l.types)) l.fields l.methods ≡ insertions l.fn.puts.items ++ spec.null_types l.slot l.tokens (map type_view l.types) l.fn.fields l.fn.methods
