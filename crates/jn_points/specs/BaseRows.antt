-- The rows of base typing (JLS 8, 5.1 to 5.3, 8.4.7, 14.17, 15 and 16): J7 and J10 at operands, J8 at readings, J9 at returns.
use Rattle.std.specs.Prelude.{ℕ, suc, ◌≡◌, ◌⊎◌, ◌≤◌, Bool, true, false, cond, eqb, not, ◌&&◌, ◌||◌, List, [], ◌∷◌, ◌++◌, length, Option, Some, None}
use Rattle.std.specs.List.{Contains}
use Rattle.jn_base.specs.declared.place.Span.{Span}
use Rattle.jn_base.specs.declared.place.Row.{Row}
use Rattle.jn_base.specs.declared.code.Code.{Code}
use Rattle.jn_base.specs.declared.code.Code.TheVariants.{J7, J8, J9, J10}
use Rattle.jn_points.specs.declared.point.Operand.{Operand}
use Rattle.jn_points.specs.declared.point.Operator.{Operator}
use Rattle.jn_points.specs.declared.point.Operator.TheVariants.{Equal, NotEqual}
use Rattle.jn_points.specs.declared.point.BaseType.{BaseType}
use Rattle.jn_points.specs.declared.point.BaseType.TheVariants.{Int, Bool as BoolBase, Void, Null as NullBase, Ref, Array}
use Rattle.jn_points.specs.declared.point.Point.{Point}
use Rattle.jn_points.specs.declared.point.PointKind.{PointKind}
use Rattle.jn_points.specs.declared.point.PointKind.TheVariants.{Move, Unary, Binary, Concat, SameRef, FieldRead, FieldWrite, StaticWrite, ElemRead, ElemWrite, ArrayLen, NewArray, ArrayOf, New, CtorCall, Call, StrOp, Print, Cast, TestInst, TestNull, Branch, Return}
use Rattle.jn_points.specs.declared.program.Method.{Method}
use Rattle.jn_points.specs.declared.program.Program.{Program}
use Rattle.jn_points.specs.Lookup.{elem_base, is_array, is_ref_base, class_of, static_of, params_of, result_base_of, point_at, reg_base, field_base, owner, method_at, method_in}
use Rattle.jn_points.specs.Members.{fits}
use Rattle.jn_points.specs.Operands.{operands}
use Rattle.jn_points.specs.Paths.{Reached, Lacks}

-- what a point wants of an operand
pub data Want : Type 0 where
  -- a type within the given one
  Within : (base : BaseType) → Want
  -- an int or a boolean
  Primitive : Want
  -- an int where the other is an int, a boolean where it is a boolean
  Same : (base : BaseType) → Want
  -- any reference
  Reference : Want
  -- an array
  Elements : Want
  -- what can be joined to a text
  Joinable : Want
  -- what can be printed
  Printable : Want
  -- any value
  Valued : Want

-- whether a type is void, the result of methods that give no value (JLS 8, 8.4.5)
abbrev pub is_void : BaseType → Bool
is_void Void = true
is_void base = false

-- whether a type is int or boolean, the primitive types here (JLS 8, 4.2)
abbrev pub is_primitive : BaseType → Bool
is_primitive Int = true
is_primitive BoolBase = true
is_primitive base = false

-- how many of a body's first registers are written at its entry: `this` and the parameters
abbrev pub given_count : Option Method → ℕ
given_count m = cond (static_of m) (length (params_of m)) (suc (length (params_of m)))

-- the type String, whose class has number 1
abbrev pub string_base : BaseType
string_base = Ref (record { 0 = 1 })

-- whether two types are both int or both boolean
abbrev pub same_primitive : BaseType → BaseType → Bool
same_primitive Int Int = true
same_primitive BoolBase BoolBase = true
same_primitive a b = false

-- the array type of the other element nullity
abbrev pub other_nullity : BaseType → BaseType
other_nullity (Array e nullable) = Array e (not nullable)
other_nullity base = base

-- whether a type is String, whose class has number 1
abbrev pub is_string : BaseType → Bool
is_string (Ref c) = eqb c.0 1
is_string base = false

-- whether `+` may join a value of the type to a text: an int, a boolean, a String or null
abbrev pub is_joinable : BaseType → Bool
is_joinable NullBase = true
is_joinable base = is_primitive base || is_string base

-- whether a value of the type may be printed: an int, a boolean or a String
abbrev pub is_printable : BaseType → Bool
is_printable base = is_primitive base || is_string base

module _ (P : Program) where
  -- whether a type is what is wanted; no value of type void is
  abbrev pub suits : Want → BaseType → Bool
  suits (Within base) t = not (is_void t) && fits P t base
  suits Primitive t = is_primitive t
  suits (Same base) t = same_primitive base t
  suits Reference t = is_ref_base t
  suits Elements t = is_array t
  suits Joinable t = is_joinable t
  suits Printable t = is_printable t
  suits Valued t = not (is_void t)

  -- whether only element nullity differs
  abbrev pub suits_otherwise : Want → BaseType → Bool
  suits_otherwise w t = not (suits w t) && suits w (other_nullity t)

  -- the row of an operand whose type is not what is wanted: J10 where only element nullity differs, else J7
  abbrev pub operand_rows : ℕ → Want → Operand → List Row
  operand_rows b w a =
      cond (suits w (reg_base P b a.reg.0)) []
      (record { span = a.span; code = cond (suits_otherwise w (reg_base P b a.reg.0)) J10 J7 } ∷ [])

  -- the rows of operands that are all wanted to be the same
  abbrev pub all_rows : ℕ → Want → List Operand → List Row
  all_rows b w [] = []
  all_rows b w (a ∷ as') = operand_rows b w a ++ all_rows b w as'

  -- each argument within its parameter
  abbrev pub argument_rows : ℕ → List BaseType → List Operand → List Row
  argument_rows b ts [] = []
  argument_rows b [] (a ∷ as') = []
  argument_rows b (t ∷ ts) (a ∷ as') = operand_rows b (Within t) a ++ argument_rows b ts as'

  -- the row of an operand that may be missing; none where it is
  abbrev pub optional_rows : ℕ → Want → Option Operand → List Row
  optional_rows b w None = []
  optional_rows b w (Some a) = operand_rows b w a

  -- `==` and `!=` take two primitives of one type, the other operators two ints
  abbrev pub binary_rows : ℕ → Operator → Operand → Operand → List Row
  binary_rows b Equal l r = operand_rows b Primitive l ++ operand_rows b (Same (reg_base P b l.reg.0)) r
  binary_rows b NotEqual l r = operand_rows b Primitive l ++ operand_rows b (Same (reg_base P b l.reg.0)) r
  binary_rows b op l r = operand_rows b (Within Int) l ++ operand_rows b (Within Int) r

  -- a value is returned where the method has a result; in a void one only what is no value at all doesn't fit
  abbrev pub returned : ℕ → Want
  returned b = cond (is_void (result_base_of (method_in P b))) Valued (Within (result_base_of (method_in P b)))

  -- J7 and J10 at the operands of a point of body b
  abbrev pub type_rows : ℕ → PointKind → List Row
  type_rows b (Move dst from bound) = operand_rows b (Within (reg_base P b dst.0)) from
  type_rows b (Unary dst negate of) = operand_rows b (Within Int) of
  type_rows b (Binary dst op l r) = binary_rows b op l r
  type_rows b (Concat dst l r) = operand_rows b Joinable l ++ operand_rows b Joinable r
  type_rows b (SameRef dst equal l r) = operand_rows b Reference l ++ operand_rows b Reference r
  type_rows b (FieldRead dst object field) = operand_rows b (Within (Ref (record { 0 = owner P field.0 }))) object
  type_rows b (FieldWrite object field value) = operand_rows b (Within (Ref (record { 0 = owner P field.0 }))) object ++ operand_rows b (Within (field_base P field.0)) value
  type_rows b (StaticWrite field value) = operand_rows b (Within (field_base P field.0)) value
  type_rows b (ElemRead dst array index) = operand_rows b Elements array ++ operand_rows b (Within Int) index
  type_rows b (ElemWrite array index value) = operand_rows b Elements array ++ operand_rows b (Within Int) index ++ operand_rows b (Within (elem_base (reg_base P b array.reg.0))) value
  type_rows b (ArrayLen dst array) = operand_rows b Elements array
  type_rows b (NewArray dst base count) = operand_rows b (Within Int) count
  type_rows b (ArrayOf dst base values) = all_rows b (Within (elem_base base)) values
  type_rows b (New dst ctor args) = argument_rows b (params_of (method_at P ctor.0)) args
  type_rows b (CtorCall ctor args own) = argument_rows b (params_of (method_at P ctor.0)) args
  type_rows b (Call dst method receiver direct args) = optional_rows b (Within (Ref (record { 0 = class_of (method_at P method.0) }))) receiver ++ argument_rows b (params_of (method_at P method.0)) args
  type_rows b (StrOp dst op of other) = operand_rows b (Within string_base) of ++ optional_rows b Reference other
  type_rows b (Print of) = operand_rows b Printable of
  type_rows b (Cast dst of class) = operand_rows b Reference of
  type_rows b (TestInst of class origin at_yes at_no) = operand_rows b Reference of
  type_rows b (TestNull of origin at_null at_value) = operand_rows b Reference of
  type_rows b (Branch of at_yes at_no) = operand_rows b (Within BoolBase) of
  type_rows b (Return value) = optional_rows b (returned b) value
  type_rows b kind = []

  -- the place of a method's name, none where there is no method
  abbrev pub name_of : Option Method → List Span
  name_of None = []
  name_of (Some m) = m.span ∷ []

  -- a row of the code at each place
  abbrev pub rows_with : Code → List Span → List Row
  rows_with code [] = []
  rows_with code (span ∷ spans) = record { span = span; code = code } ∷ rows_with code spans

  -- J9: no value in a method with result, at its name; a value in a void one, at the value
  abbrev pub result_rows : ℕ → PointKind → List Row
  result_rows b (Return None) = cond (is_void (result_base_of (method_in P b))) [] (rows_with J9 (name_of (method_in P b)))
  result_rows b (Return (Some value)) = cond (is_void (result_base_of (method_in P b))) (record { span = value.span; code = J9 } ∷ []) []
  result_rows b kind = []

  -- `this` and the parameters are written at the entry
  abbrev pub given : ℕ → ℕ
  given b = given_count (method_in P b)

  -- some path comes to the reading without a write of the register
  pub record IsUnassigned (b p : ℕ) (a : Operand) : Type 0 where
    pub valued : is_void (reg_base P b a.reg.0) ≡ false
    pub local : given b ≤ a.reg.0
    pub lacks : Lacks P b a.reg.0 p

  -- a J7 or J10 row: an operand of some point, reached or not, has a wrong type
  pub record TypeRow (row : Row) : Type 0 where
    pub b : ℕ
    pub p : ℕ
    pub pt : Point
    pub there : point_at P b p ≡ Some pt
    pub broken : Contains (type_rows b pt.kind) row

  -- a J8 row: some point reads a register that isn't written on some path that comes to it (JLS 8, 16)
  pub record UnassignedRow (row : Row) : Type 0 where
    pub b : ℕ
    pub p : ℕ
    pub pt : Point
    pub operand : Operand
    pub there : point_at P b p ≡ Some pt
    pub read : Contains (operands pt.kind) operand
    pub unassigned : IsUnassigned b p operand
    pub is : row ≡ record { span = operand.span; code = J8 }

  -- a J9 row: a reached return has a value in a void method, or none in a method with result (JLS 8, 8.4.7 and 14.17)
  pub record ResultRow (row : Row) : Type 0 where
    pub b : ℕ
    pub p : ℕ
    pub pt : Point
    pub there : point_at P b p ≡ Some pt
    pub reached : Reached P b p
    pub broken : Contains (result_rows b pt.kind) row

  -- J7 and J10 stand at every point, J8 and J9 where a path comes to
  abbrev pub IsBaseRow : Row → Type 0
  IsBaseRow row = TypeRow row ⊎ (UnassignedRow row ⊎ ResultRow row)

  -- the program is base-typed
  abbrev pub NoBaseRows : Type 0
  NoBaseRows = (row : Row) → IsBaseRow row → ⊥
