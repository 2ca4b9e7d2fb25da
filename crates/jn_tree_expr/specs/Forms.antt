-- Forms of expressions that have more than one operand.
use Rattle.std.specs.Prelude.{Bool, true, false, not}
use Rattle.jn_places.specs.Placed.{PlacedTree, PlacedCall, PlacedBinary, PlacedConditional, PlacedAssign}
use Rattle.jn_lowering.specs.Bases.{is_simple}
use Rattle.jn_lower_expr.specs.Lowering.{is_connective}

-- a call with a dot
abbrev pub is_dotted : PlacedTree → Bool
is_dotted (PlacedCall e n es span) = true
is_dotted e = false

-- a binary operator that is no condition of its sides
abbrev pub calculates : PlacedTree → Bool
calculates (PlacedBinary a o b span) = not (is_connective (PlacedBinary a o b span))
calculates e = false

-- `?:`
abbrev pub chooses : PlacedTree → Bool
chooses (PlacedConditional q a b span) = true
chooses e = false

-- `=`
abbrev pub assigns_simply : PlacedTree → Bool
assigns_simply (PlacedAssign target o e span) = is_simple o
assigns_simply e = false

-- `+=` and its like
abbrev pub assigns_by : PlacedTree → Bool
assigns_by (PlacedAssign target o e span) = not (is_simple o)
assigns_by e = false
