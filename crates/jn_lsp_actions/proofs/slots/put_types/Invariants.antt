use Rattle.std.proofs.Common.{◌≡◌, ◌++◌, drop}
use Rattle.std.specs.Prelude.{map}
use Rattle.jn_trees.specs.View.{type_view}
use Rattle.jn_lsp_actions.specs.Slots as spec
use Rattle.jn_lsp_actions.proofs.slots.put_types.Given as goal

abbrev pub invariant-loop-declared : goal.invariant-loop-declared
invariant-loop-declared l = l.slots.items ++ spec.types_slots l.program.slots (map type_view (drop l.declared-index l.types)) l.fields l.methods ≡ l.fn.slots.items ++ spec.types_slots l.program.slots (map type_view l.types) l.fn.fields l.fn.methods
