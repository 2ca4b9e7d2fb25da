use Rattle.std.proofs.Common.{◌≡◌, ◌++◌, drop}
use Rattle.jn_places.specs.PlacedView.{placed_declarators}
use Rattle.jn_lowering.specs.BodyRows as spec
use Rattle.jn_lower_rows.proofs.initializers.initializers.Given as goal

abbrev pub invariant-loop-declared : goal.invariant-loop-declared
invariant-loop-declared l = l.rows ++ spec.initializers_rows l.whole.program.now l.whole.method.0 (placed_declarators (drop l.declared-index l.more)) ≡ l.fn.rows ++ spec.initializers_rows l.whole.program.now l.whole.method.0 (placed_declarators l.more)
