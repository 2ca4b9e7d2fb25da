-- The base type of each form of an expression (JLS 8, 15): that of the register in which its value stands.
use Rattle.std.specs.Prelude.{ℕ, Bool, true, false, cond, ◌&&◌, ◌||◌, eqb, List, [], ◌∷◌, Option, Some, None}
use Rattle.jn_trees.specs.declared.expression.Annotation.{Annotation}
use Rattle.jn_trees.specs.declared.expression.Base.{Base}
use Rattle.jn_trees.specs.declared.expression.Base.TheVariants.{Class as ClassUse, Int as IntUse, Boolean as BooleanUse}
use Rattle.jn_trees.specs.declared.expression.Literal.{Literal}
use Rattle.jn_trees.specs.declared.expression.Literal.TheVariants.{Number, Str as Text, Null as NullLiteral}
use Rattle.jn_trees.specs.declared.expression.UnaryOperator.{UnaryOperator}
use Rattle.jn_trees.specs.declared.expression.UnaryOperator.TheVariants.{Not}
use Rattle.jn_trees.specs.declared.expression.BinaryOperator.{BinaryOperator}
use Rattle.jn_trees.specs.declared.expression.BinaryOperator.TheVariants.{Multiply, Divide, Remainder, Add, Subtract, Less, Greater, LessEqual, GreaterEqual, Equal, NotEqual, And, Or}
use Rattle.jn_trees.specs.declared.expression.AssignOperator.{AssignOperator}
use Rattle.jn_trees.specs.declared.expression.AssignOperator.TheVariants.{Assign, Subtract as SubtractFrom, Multiply as MultiplyBy, Divide as DivideBy, Remainder as RemainderBy}
use Rattle.jn_points.specs.declared.point.Operator.{Operator}
use Rattle.jn_points.specs.declared.point.Operator.TheVariants.{Add as Sum, Sub as Difference, Mul as Product, Div as Quotient, Rem as Rest, Less as Below, LessEqual as AtMost, Greater as Above, GreaterEqual as AtLeast, Equal as Same, NotEqual as Other}
use Rattle.jn_points.specs.declared.point.Elem.{Elem}
use Rattle.jn_points.specs.declared.point.Elem.TheVariants.{Int as IntElem, Bool as BoolElem, Ref as RefElem}
use Rattle.jn_points.specs.declared.point.BaseType.{BaseType}
use Rattle.jn_points.specs.declared.point.BaseType.TheVariants.{Int, Bool as BoolBase, Void, Null, Ref, Array}
use Rattle.jn_points.specs.declared.program.Program.{Program}
use Rattle.jn_points.specs.BaseRows.{is_string, string_base}
use Rattle.jn_points.specs.Lookup.{elem_base, field_base, method_at, result_base_of}
use Rattle.jn_points.specs.Members.{fits, method_of}
use Rattle.jn_points.specs.Regular.{is_sum, operation_base}
use Rattle.jn_places.specs.Placed.{PlacedTree, PlacedLiteral, PlacedName, PlacedThis, PlacedParen, PlacedField, PlacedCall, PlacedOwnCall, PlacedSuperCall, PlacedIndex, PlacedNew, PlacedNewArray, PlacedArrayOf, PlacedPostfix, PlacedPrefix, PlacedUnary, PlacedCast, PlacedBinary, PlacedInstanceOf, PlacedConditional, PlacedAssign, PlacedTypeUse}
use Rattle.jn_known.specs.Known.{nullable_name}
use Rattle.jn_lowering.specs.Scopes.{Scope, Meaning, LocalMeant, FieldMeant, Access, ClassField, ObjectField, ArrayLength, NoField, Callee, OfText, ClassMethod, ObjectMethod, count, or_zero, class_named, meaning, access, callee, super_method}

-- the type of a class's objects
abbrev pub ref : ℕ → BaseType
ref c = Ref (record { 0 = c })

-- JLS 8, 15.8.1
abbrev pub literal_type : Literal → BaseType
literal_type (Number n) = Int
literal_type (Text n) = string_base
literal_type NullLiteral = Null
literal_type l = BoolBase

-- `==` and `!=` (JLS 8, 15.21)
abbrev pub is_equality : BinaryOperator → Bool
is_equality Equal = true
is_equality NotEqual = true
is_equality o = false

-- the operator of a point for a tree's; `&&` and `||` are in no point, and of theirs the type alone is asked, which is that of `==`
abbrev pub operator_of : BinaryOperator → Operator
operator_of Multiply = Product
operator_of Divide = Quotient
operator_of Remainder = Rest
operator_of Add = Sum
operator_of Subtract = Difference
operator_of Less = Below
operator_of Greater = Above
operator_of LessEqual = AtMost
operator_of GreaterEqual = AtLeast
operator_of NotEqual = Other
operator_of Equal = Same
operator_of And = Same
operator_of Or = Same

-- the operator of a compound assignment; a simple one has none
abbrev pub compound_of : AssignOperator → Operator
compound_of SubtractFrom = Difference
compound_of MultiplyBy = Product
compound_of DivideBy = Quotient
compound_of RemainderBy = Rest
compound_of o = Sum

-- `=` (JLS 8, 15.26.1)
abbrev pub is_simple : AssignOperator → Bool
is_simple Assign = true
is_simple o = false

-- the operator of text joining
abbrev pub is_join : Operator → Bool
is_join Sum = true
is_join o = false

-- `+` with a String at a side joins texts (JLS 15.18.1)
abbrev pub joins : Operator → BaseType → BaseType → Bool
joins o a b = is_join o && (is_string a || is_string b)

-- a binary form's type (JLS 8, 15.17 to 15.21)
abbrev pub binary_type : Operator → BaseType → BaseType → BaseType
binary_type o a b = cond (joins o a b) string_base (cond (is_sum o) Int BoolBase)

-- a unary form's type (JLS 8, 15.15)
abbrev pub unary_type : UnaryOperator → BaseType
unary_type Not = BoolBase
unary_type o = Int

-- an annotation of the name is among them
abbrev pub has_annotation : ℕ → List Annotation → Bool
has_annotation n [] = false
has_annotation n (a ∷ as') = eqb a.name.0 n || has_annotation n as'

-- whether a name is that of a local: then an assignment's result is the local itself
abbrev pub is_local_meaning : Meaning → Bool
is_local_meaning (LocalMeant l) = true
is_local_meaning m = false

-- the name of a class, and no primitive type
abbrev pub is_class_use : Base → Bool
is_class_use (ClassUse n) = true
is_class_use base = false

module _ (P : Program) where
  -- an array's elements (JLS 8, 10.1)
  abbrev pub elem_type : Base → List Annotation → Elem
  elem_type (ClassUse n) annotations = RefElem (record { 0 = or_zero (class_named P n.name.0) })
  elem_type (IntUse s) annotations = IntElem
  elem_type (BooleanUse s) annotations = BoolElem

  -- the type of an array whose elements have the annotations (JLS 9.7.4)
  abbrev pub array_type : Base → List Annotation → BaseType
  array_type base annotations = Array (elem_type base annotations) (is_class_use base && has_annotation nullable_name annotations)

  -- a type that is no array's (JLS 8, 4.2 and 4.3)
  abbrev pub simple_type : Base → BaseType
  simple_type (ClassUse n) = ref (or_zero (class_named P n.name.0))
  simple_type (IntUse s) = Int
  simple_type (BooleanUse s) = BoolBase

  -- a written type, with the annotations in its brackets and those before it
  abbrev pub type_by : Base → Option (List Annotation) → List Annotation → BaseType
  type_by base None annotations = simple_type base
  type_by base (Some brackets) annotations = array_type base annotations

  -- the type that is written by a use with the annotations before it
  abbrev pub type_of_use : PlacedTypeUse → List Annotation → BaseType
  type_of_use u annotations = type_by u.base u.array annotations

  -- JLS 8, 15.11 and 10.7
  abbrev pub access_type : Access → BaseType
  access_type (ClassField f) = field_base P f
  access_type (ObjectField f) = field_base P f
  access_type ArrayLength = Int
  access_type NoField = Void

  -- a method's result (JLS 8, 15.12.3)
  abbrev pub result_type : Option ℕ → BaseType
  result_type None = Void
  result_type (Some m) = result_base_of (method_at P m)

  -- the result of what a call with a dot names
  abbrev pub callee_type : Callee → BaseType
  callee_type (OfText op) = operation_base op
  callee_type (ClassMethod m) = result_base_of (method_at P m)
  callee_type (ObjectMethod m) = result_base_of (method_at P m)
  callee_type k = Void

  -- what an identifier means has this type
  abbrev pub meaning_type : Meaning → BaseType
  meaning_type (LocalMeant l) = l.base
  meaning_type (FieldMeant f) = field_base P f
  meaning_type m = Void

  -- the wider of two types, or the first where neither is within the other
  abbrev pub wider : BaseType → BaseType → BaseType
  wider a b = cond (fits P a b) b a

  module _ (c : ℕ) where
    -- an expression that is a local's name
    abbrev pub is_local : Scope → PlacedTree → Bool
    is_local s (PlacedName n) = is_local_meaning (meaning P c s n.name.0)
    is_local s e = false

    -- an assignment's type: the local's, else the value's; a compound one's is that of its operator (JLS 8, 15.26)
    abbrev pub assign_type : AssignOperator → Bool → BaseType → BaseType → BaseType
    assign_type o local target value = cond (is_simple o) (cond local target value) (binary_type (compound_of o) target value)

    -- the type of each form
    abbrev pub type_of : Scope → PlacedTree → BaseType
    type_of s (PlacedLiteral l span) = literal_type l
    type_of s (PlacedName n) = meaning_type (meaning P c s n.name.0)
    type_of s (PlacedThis span) = ref c
    type_of s (PlacedParen e span) = type_of s e
    type_of s (PlacedField e n span) = access_type (access P c s e (type_of s e) n.name.0)
    type_of s (PlacedCall e n es span) = callee_type (callee P c s e (type_of s e) n.name.0 (count es))
    type_of s (PlacedOwnCall n es span) = result_type (method_of P c n.name.0 (count es))
    type_of s (PlacedSuperCall n es span) = result_type (super_method P c n.name.0 (count es))
    type_of s (PlacedIndex a i span) = elem_base (type_of s a)
    type_of s (PlacedNew n es span) = ref (or_zero (class_named P n.name.0))
    type_of s (PlacedNewArray annotations base size span) = array_type base annotations
    type_of s (PlacedArrayOf annotations base es span) = array_type base annotations
    type_of s (PlacedPostfix e step span) = type_of s e
    type_of s (PlacedPrefix step e span) = Int
    type_of s (PlacedUnary o e span) = unary_type o
    type_of s (PlacedCast n e span) = ref (or_zero (class_named P n.name.0))
    type_of s (PlacedBinary a o b span) = binary_type (operator_of o) (type_of s a) (type_of s b)
    type_of s (PlacedInstanceOf e n span) = BoolBase
    type_of s (PlacedConditional q a b span) = wider (type_of s a) (type_of s b)
    type_of s (PlacedAssign target o e span) = assign_type o (is_local s target) (type_of s target) (type_of s e)
