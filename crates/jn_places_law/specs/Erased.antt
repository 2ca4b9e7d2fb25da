-- What expressions are lowered from and to, without the places where it all stands.
use Rattle.std.specs.Prelude.{List, [], ◌∷◌, map}
use Rattle.jn_base.specs.declared.place.Row.{Row}
use Rattle.jn_trees.specs.declared.expression.Annotation.{Annotation}
use Rattle.jn_trees.specs.declared.expression.Base.{Base}
use Rattle.jn_trees.specs.declared.expression.Base.TheVariants.{Class as ClassUse, Int as IntUse, Boolean as BooleanUse}
use Rattle.jn_trees.specs.declared.expression.Identifier.{Identifier}
use Rattle.jn_places.specs.Placed.{PlacedTree, PlacedTrees, NoPlacedTrees, MorePlacedTrees, PlacedLiteral, PlacedName, PlacedThis, PlacedParen, PlacedField, PlacedCall, PlacedOwnCall, PlacedSuperCall, PlacedIndex, PlacedNew, PlacedNewArray, PlacedArrayOf, PlacedPostfix, PlacedPrefix, PlacedUnary, PlacedCast, PlacedBinary, PlacedInstanceOf, PlacedConditional, PlacedAssign}
use Rattle.jn_lowering.specs.Fragments.{Fragment, Piece}
use Rattle.jn_lowering.specs.Scopes.{Local, Scope, Meaning, LocalMeant, FieldMeant, ClassMeant, SystemMeant, NothingMeant}
use Rattle.jn_lowering.specs.Forms.{Value, Condition, Spot, LocalSpot, StaticSpot, FieldSpot, ElementSpot, LengthSpot, NoSpot, Located, Lowered}
use Rattle.jn_lowering.specs.Calls.{Operands}
use Rattle.jn_lowering.specs.Locals.{State}
use Rattle.jn_lowering.specs.Statements.{Step}
use Rattle.jn_places_law.specs.Bare.{no_span, bare_operand, bare_operands, bare_points}

-- trees

abbrev pub bare_name : Identifier → Identifier
bare_name n = record { name = n.name; span = no_span }

abbrev pub bare_annotation : Annotation → Annotation
bare_annotation a = record { name = a.name; span = no_span }

abbrev pub bare_annotations : List Annotation → List Annotation
bare_annotations [] = []
bare_annotations (a ∷ as') = bare_annotation a ∷ bare_annotations as'

abbrev pub bare_base : Base → Base
bare_base (ClassUse n) = ClassUse (bare_name n)
bare_base (IntUse s) = IntUse no_span
bare_base (BooleanUse s) = BooleanUse no_span

abbrev mutual
  -- an expression
  pub bare_tree : PlacedTree → PlacedTree
  bare_tree (PlacedLiteral l span) = PlacedLiteral l no_span
  bare_tree (PlacedName n) = PlacedName (bare_name n)
  bare_tree (PlacedThis span) = PlacedThis no_span
  bare_tree (PlacedParen e span) = PlacedParen (bare_tree e) no_span
  bare_tree (PlacedField e n span) = PlacedField (bare_tree e) (bare_name n) no_span
  bare_tree (PlacedCall e n es span) = PlacedCall (bare_tree e) (bare_name n) (bare_trees es) no_span
  bare_tree (PlacedOwnCall n es span) = PlacedOwnCall (bare_name n) (bare_trees es) no_span
  bare_tree (PlacedSuperCall n es span) = PlacedSuperCall (bare_name n) (bare_trees es) no_span
  bare_tree (PlacedIndex a i span) = PlacedIndex (bare_tree a) (bare_tree i) no_span
  bare_tree (PlacedNew n es span) = PlacedNew (bare_name n) (bare_trees es) no_span
  bare_tree (PlacedNewArray annotations base size span) = PlacedNewArray (bare_annotations annotations) (bare_base base) (bare_tree size) no_span
  bare_tree (PlacedArrayOf annotations base es span) = PlacedArrayOf (bare_annotations annotations) (bare_base base) (bare_trees es) no_span
  bare_tree (PlacedPostfix e step span) = PlacedPostfix (bare_tree e) step no_span
  bare_tree (PlacedPrefix step e span) = PlacedPrefix step (bare_tree e) no_span
  bare_tree (PlacedUnary o e span) = PlacedUnary o (bare_tree e) no_span
  bare_tree (PlacedCast n e span) = PlacedCast (bare_name n) (bare_tree e) no_span
  bare_tree (PlacedBinary a o b span) = PlacedBinary (bare_tree a) o (bare_tree b) no_span
  bare_tree (PlacedInstanceOf e n span) = PlacedInstanceOf (bare_tree e) (bare_name n) no_span
  bare_tree (PlacedConditional q a b span) = PlacedConditional (bare_tree q) (bare_tree a) (bare_tree b) no_span
  bare_tree (PlacedAssign target o e span) = PlacedAssign (bare_tree target) o (bare_tree e) no_span

  -- several
  pub bare_trees : PlacedTrees → PlacedTrees
  bare_trees NoPlacedTrees = NoPlacedTrees
  bare_trees (MorePlacedTrees e es) = MorePlacedTrees (bare_tree e) (bare_trees es)

-- scopes

-- without its rows
abbrev pub bare_local : Local → Local
bare_local l = record { name = l.name; reg = l.reg; base = l.base; bound = l.bound; fixed = l.fixed; faults = [] }

abbrev pub bare_scope : Scope → Scope
bare_scope [] = []
bare_scope (l ∷ ls) = bare_local l ∷ bare_scope ls

-- with the codes of its rows
abbrev pub coded_row : Row → Row
coded_row r = record { span = no_span; code = r.code }

abbrev pub coded_local : Local → Local
coded_local l = record { name = l.name; reg = l.reg; base = l.base; bound = l.bound; fixed = l.fixed; faults = map coded_row l.faults }

abbrev pub coded_scope : Scope → Scope
coded_scope [] = []
coded_scope (l ∷ ls) = coded_local l ∷ coded_scope ls

abbrev pub bare_meaning : Meaning → Meaning
bare_meaning (LocalMeant l) = LocalMeant (bare_local l)
bare_meaning (FieldMeant f) = FieldMeant f
bare_meaning (ClassMeant k) = ClassMeant k
bare_meaning SystemMeant = SystemMeant
bare_meaning NothingMeant = NothingMeant

-- points

abbrev pub bare_fragment : Fragment → Fragment
bare_fragment c = record { size = c.size; points = λ start first second. bare_points (c.points start first second) }

abbrev pub bare_piece : Piece → Piece
bare_piece p = record { fragment = bare_fragment p.fragment; first = p.first; second = p.second }

abbrev pub bare_pieces : List Piece → List Piece
bare_pieces [] = []
bare_pieces (p ∷ ps) = bare_piece p ∷ bare_pieces ps

abbrev pub bare_value : Value → Value
bare_value v = record { fragment = bare_fragment v.fragment; operand = bare_operand v.operand; behind = v.behind }

abbrev pub bare_condition : Condition → Condition
bare_condition q = record { fragment = bare_fragment q.fragment; behind = q.behind }

abbrev pub bare_spot : Spot → Spot
bare_spot (LocalSpot l) = LocalSpot (bare_local l)
bare_spot (StaticSpot f) = StaticSpot f
bare_spot (FieldSpot object f) = FieldSpot (bare_operand object) f
bare_spot (ElementSpot array index base) = ElementSpot (bare_operand array) (bare_operand index) base
bare_spot (LengthSpot array) = LengthSpot (bare_operand array)
bare_spot NoSpot = NoSpot

abbrev pub bare_located : Located → Located
bare_located p = record { fragment = bare_fragment p.fragment; spot = bare_spot p.spot; behind = p.behind }

abbrev pub bare_lowered : Lowered → Lowered
bare_lowered l = record { value = bare_value l.value; condition = bare_condition l.condition; assigned = λ later. bare_located (l.assigned later) }

-- operands one after the other
abbrev pub bare_row : Operands → Operands
bare_row vs = record { fragment = bare_fragment vs.fragment; values = bare_operands vs.values; behind = vs.behind }

-- statements

abbrev pub bare_state : State → State
bare_state st = record { scope = bare_scope st.scope; locals = st.locals; temporaries = st.temporaries }

abbrev pub bare_step : Step → Step
bare_step x = record { fragment = bare_fragment x.fragment; behind = bare_state x.behind }
