-- The operands that a point reads, as the code lends them.
use Rattle.std.specs.Prelude.{List, ◌++◌}
use Rattle.jn_basecheck.specs.declared.operands.Operands.{Operands}
use Rattle.jn_points.specs.declared.point.Operand.{Operand}
use Rattle.jn_points.specs.Operands.{operand_if}

abbrev pub listed : Operands → List Operand
listed o = operand_if o.first ++ (operand_if o.second ++ (operand_if o.third ++ o.rest.now))
