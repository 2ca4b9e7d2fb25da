-- Expressions that have no points: rows J1 to J5, each a condition on the tree. What depends on a part with a row has none.
use Rattle.std.specs.Prelude.{ℕ, Bool, true, false, cond, not, ◌&&◌, ◌||◌, eqb, List, [], ◌++◌, Option, Some, None}
use Rattle.jn_base.specs.declared.code.Code.TheVariants.{J1, J2, J3, J4, J5}
use Rattle.jn_base.specs.declared.place.Row.{Row}
use Rattle.jn_base.specs.declared.place.Span.{Span}
use Rattle.jn_trees.specs.declared.expression.Annotation.{Annotation}
use Rattle.jn_trees.specs.declared.expression.Base.{Base}
use Rattle.jn_trees.specs.declared.expression.BinaryOperator.{BinaryOperator}
use Rattle.jn_points.specs.declared.point.BaseType.{BaseType}
use Rattle.jn_points.specs.declared.point.BaseType.TheVariants.{Ref, Array}
use Rattle.jn_points.specs.declared.program.Class.{Class}
use Rattle.jn_points.specs.declared.program.Field.{Field}
use Rattle.jn_points.specs.declared.program.Method.{Method}
use Rattle.jn_points.specs.declared.program.Program.{Program}
use Rattle.jn_points.specs.BaseRows.{is_string}
use Rattle.jn_points.specs.Lookup.{is_array, is_ref_base, class_info, class_of, field_info, interface_of, method_at, owner, private_of, static_of}
use Rattle.jn_points.specs.Members.{constructor_of, field_of, method_of}
use Rattle.jn_places.specs.Placed.{PlacedTree, PlacedTrees, NoPlacedTrees, MorePlacedTrees, PlacedLiteral, PlacedName, PlacedThis, PlacedParen, PlacedField, PlacedCall, PlacedOwnCall, PlacedSuperCall, PlacedIndex, PlacedNew, PlacedNewArray, PlacedArrayOf, PlacedPostfix, PlacedPrefix, PlacedUnary, PlacedCast, PlacedBinary, PlacedInstanceOf, PlacedConditional, PlacedAssign}
use Rattle.jn_known.specs.Known.{equals_name, length_name, is_object_member}
use Rattle.jn_lowering.specs.Scopes.{Scope, Meaning, LocalMeant, FieldMeant, ClassMeant, SystemMeant, Access, ClassField, ObjectField, ArrayLength, NoField, Callee, Println, OfText, access, before_dot, callee, class_named, count, meaning, super_method, text_callee}
use Rattle.jn_lowering.specs.Bases.{is_class_use, is_equality, type_of}
use Rattle.jn_lowering.specs.Calls.{is_static}
use Rattle.jn_lowering.specs.Expressions.{is_null, span_of}
use Rattle.jn_lowering.specs.Annotations.{annotation_rows, base_rows, known_class, nullity_alone, row, unless, when}

-- where an expression stands: whether `this` may stand there, and whether final fields of the class may be assigned through it
pub record Setting : Type 0 where
  pub this_stands : Bool
  pub own_fields : Bool

-- an expression without its parentheses
abbrev pub inner_span : PlacedTree → Span
inner_span (PlacedParen e span) = inner_span e
inner_span e = span_of e

-- `this`, in parentheses or not
abbrev pub is_this : PlacedTree → Bool
is_this (PlacedThis span) = true
is_this (PlacedParen e span) = is_this e
is_this e = false

-- a final field (JLS 8, 8.3.1.2)
abbrev pub final_field : Option Field → Bool
final_field None = false
final_field (Some f) = f.is_final

-- a private field (JLS 8, 6.6.1)
abbrev pub private_field : Option Field → Bool
private_field None = false
private_field (Some f) = f.is_private

-- an abstract method (JLS 8, 8.4.3.1)
abbrev pub abstract_method : Option Method → Bool
abstract_method None = false
abstract_method (Some m) = m.is_abstract

-- an abstract class (JLS 8, 8.1.1.1)
abbrev pub abstract_class : Option Class → Bool
abstract_class None = false
abstract_class (Some c) = c.is_abstract

-- one of String's three methods
abbrev pub is_text : Callee → Bool
is_text (OfText op) = true
is_text k = false

module _ (P : Program) where
  -- J3: a private member of another class
  abbrev pub private_row : ℕ → Bool → ℕ → Span → List Row
  private_row c is_private of span = when (is_private && not (eqb of c)) (row J3 span)

  -- a field's
  abbrev pub field_private : ℕ → ℕ → Span → List Row
  field_private c f span = private_row c (private_field (field_info P f)) (owner P f) span

  -- a method's
  abbrev pub method_private : ℕ → ℕ → Span → List Row
  method_private c m span = private_row c (private_of (method_at P m)) (class_of (method_at P m)) span

  -- a field that a class names is there and static, one that a value names isn't static

  -- `C.f` (JLS 8, 15.11.1)
  abbrev pub class_field_rows : ℕ → Option ℕ → Span → List Row
  class_field_rows c None span = row J2 span
  class_field_rows c (Some f) span = field_private c f span ++ when (not (is_static P f)) (row J2 span)

  -- `e.f` (JLS 8, 15.11.1)
  abbrev pub object_field_rows : ℕ → Option ℕ → Span → List Row
  object_field_rows c None span = row J2 span
  object_field_rows c (Some f) span = field_private c f span ++ when (is_static P f) (row J2 span)

  -- a field of a value: String has none, an array its length (JLS 8, 10.7)
  abbrev pub value_field_rows : ℕ → BaseType → ℕ → Span → List Row
  value_field_rows c (Ref k) n span = cond (eqb k.0 1) (row J5 span) (object_field_rows c (field_of P k.0 n) span)
  value_field_rows c (Array e nullable) n span = when (not (eqb n length_name)) (row J2 span)
  value_field_rows c base n span = row J2 span

  -- the member after a dot; `rows` are those of what stands before it
  abbrev pub access_rows : ℕ → Meaning → BaseType → List Row → ℕ → Span → List Row
  access_rows c (ClassMeant k) base rows n span = cond (eqb k 1) (row J5 span) (class_field_rows c (field_of P k n) span)
  access_rows c SystemMeant base rows n span = row J5 span
  access_rows c m base rows n span = rows ++ unless rows (value_field_rows c base n span)

  -- `C.m(..)` (JLS 8, 15.12.3)
  abbrev pub class_method_rows : ℕ → Option ℕ → Span → List Row
  class_method_rows c None span = row J2 span
  class_method_rows c (Some m) span = method_private c m span ++ when (not (static_of (method_at P m))) (row J2 span)

  -- `e.m(..)` (JLS 8, 15.12.3)
  abbrev pub object_method_rows : ℕ → Option ℕ → Span → List Row
  object_method_rows c None span = row J2 span
  object_method_rows c (Some m) span = method_private c m span ++ when (static_of (method_at P m)) (row J2 span)

  -- a method of a value, which is an object
  abbrev pub reference_method_rows : ℕ → BaseType → ℕ → ℕ → Span → List Row
  reference_method_rows c (Ref k) n arity span = object_method_rows c (method_of P k.0 n arity) span
  reference_method_rows c base n arity span = row J2 span

  -- of a String three methods are there, `equals` of nothing else
  abbrev pub value_method_rows : ℕ → BaseType → ℕ → ℕ → Span → List Row
  value_method_rows c base n arity span =
      cond (is_string base) (when (not (is_text (text_callee n arity))) (row J5 span))
      (cond (eqb n equals_name) (row J5 span) (reference_method_rows c base n arity span))

  -- String has no static methods here
  abbrev pub string_method_rows : ℕ → ℕ → Span → List Row
  string_method_rows n arity span = cond (is_text (text_callee n arity)) (row J2 span) (row J5 span)

  -- the method after a dot, with the rows of what stands before it and of the arguments
  abbrev pub call_rows : ℕ → Meaning → BaseType → List Row → List Row → ℕ → ℕ → Span → List Row
  call_rows c (ClassMeant k) base rows args n arity span = args ++ cond (eqb k 1) (string_method_rows n arity span) (cond (is_object_member n) (row J5 span) (class_method_rows c (method_of P k n arity) span))
  call_rows c SystemMeant base rows args n arity span = args ++ row J5 span
  call_rows c m base rows args n arity span = rows ++ (args ++ cond (is_object_member n && not (eqb n equals_name)) (row J5 span) (unless rows (value_method_rows c base n arity span)))

  -- `System.out.println(e)` has the rows of its argument alone
  abbrev pub dotted_call_rows : ℕ → Callee → Meaning → BaseType → List Row → List Row → ℕ → ℕ → Span → List Row
  dotted_call_rows c Println m base rows args n arity span = args
  dotted_call_rows c k m base rows args n arity span = call_rows c m base rows args n arity span

  -- `m(..)` (JLS 8, 15.12.1)
  abbrev pub own_method_rows : Setting → Option ℕ → Span → List Row
  own_method_rows at None span = row J2 span
  own_method_rows at (Some m) span = when (not (static_of (method_at P m)) && not at.this_stands) (row J1 span)

  -- `super.m(..)` (JLS 8, 15.12.3)
  abbrev pub super_method_rows : ℕ → Option ℕ → Span → List Row
  super_method_rows c None span = row J2 span
  super_method_rows c (Some m) span = method_private c m span ++ when (abstract_method (method_at P m) || static_of (method_at P m)) (row J2 span)

  -- a constructor (JLS 8, 15.9.3)
  abbrev pub ctor_rows : ℕ → Option ℕ → Span → List Row
  ctor_rows c None span = row J2 span
  ctor_rows c (Some m) span = method_private c m span

  -- `new C(..)` (JLS 8, 15.9.1)
  abbrev pub new_rows : ℕ → Option ℕ → ℕ → Span → List Row
  new_rows c None arity span = row J1 span
  new_rows c (Some k) arity span = when (interface_of (class_info P k) || abstract_class (class_info P k)) (row J2 span) ++ ctor_rows c (constructor_of P k arity) span

  -- an array creation's type (JLS 8, 15.10.1)
  abbrev pub array_rows : Base → List Annotation → List Row
  array_rows base annotations = annotation_rows nullity_alone (is_class_use base) annotations ++ base_rows P base

  -- Object or String
  abbrev pub is_wide : BaseType → Bool
  is_wide (Ref k) = eqb k.0 0 || eqb k.0 1
  is_wide base = false

  -- references of which one is an Object or a String
  abbrev pub wide_references : BaseType → BaseType → Bool
  wide_references a b = (is_ref_base a && is_ref_base b) && (is_wide a || is_wide b)

  -- J5: `==` or `!=` of such (JLS 8, 15.21.3), but with `null`
  abbrev pub equality_rows : BinaryOperator → Bool → BaseType → BaseType → Span → List Row
  equality_rows o null a b span = when (is_equality o && (not null && wide_references a b)) (row J5 span)

  module _ (c : ℕ) (at : Setting) where
    -- an implicit `this` must stand (JLS 8, 8.3.3 and 8.8.7.1)
    abbrev pub own_field_rows : ℕ → Span → List Row
    own_field_rows f span = when (not (is_static P f) && not at.this_stands) (row J1 span)

    -- an identifier (JLS 8, 6.5.6)
    abbrev pub name_rows : Meaning → Span → List Row
    name_rows (LocalMeant l) span = l.faults
    name_rows (FieldMeant f) span = own_field_rows f span
    name_rows m span = row J1 span

    -- J4: a final field, but in a constructor of its class through `this`
    abbrev pub final_rows : ℕ → Bool → Span → List Row
    final_rows f through_this span = when (final_field (field_info P f) && not (not (is_static P f) && (at.own_fields && (eqb (owner P f) c && through_this)))) (row J4 span)

    -- an identifier that is assigned (JLS 8, 4.12.4)
    abbrev pub assigned_name_rows : Meaning → Span → List Row
    assigned_name_rows (LocalMeant l) span = when l.fixed (row J4 span) ++ l.faults
    assigned_name_rows (FieldMeant f) span = own_field_rows f span ++ unless (own_field_rows f span) (final_rows f true span)
    assigned_name_rows m span = row J1 span

    -- a member after a dot that is assigned
    abbrev pub assigned_access_rows : Access → Bool → Span → List Row
    assigned_access_rows (ClassField f) through_this span = final_rows f false span
    assigned_access_rows (ObjectField f) through_this span = final_rows f through_this span
    assigned_access_rows ArrayLength through_this span = row J4 span
    assigned_access_rows NoField through_this span = []

    -- J2: what has an index is an array (JLS 8, 15.10.3)
    abbrev pub index_rows : BaseType → List Row → List Row → Span → List Row
    index_rows base rows more span = rows ++ (more ++ unless rows (when (not (is_array base)) (row J2 span)))

    abbrev mutual
      -- of an expression that is read
      pub rows_of : Scope → PlacedTree → List Row
      rows_of s (PlacedLiteral l span) = []
      rows_of s (PlacedName n) = name_rows (meaning P c s n.name.0) n.span
      rows_of s (PlacedThis span) = when (not at.this_stands) (row J1 span)
      rows_of s (PlacedParen e span) = rows_of s e
      rows_of s (PlacedField e n span) = access_rows c (before_dot P c s e) (type_of P c s e) (rows_of s e) n.name.0 n.span
      rows_of s (PlacedCall e n es span) = dotted_call_rows c (callee P c s e (type_of P c s e) n.name.0 (count es)) (before_dot P c s e) (type_of P c s e) (rows_of s e) (rows_of_all s es) n.name.0 (count es) n.span
      rows_of s (PlacedOwnCall n es span) = rows_of_all s es ++ cond (is_object_member n.name.0) (row J5 n.span) (own_method_rows at (method_of P c n.name.0 (count es)) n.span)
      rows_of s (PlacedSuperCall n es span) = when (not at.this_stands) (row J1 span) ++ (rows_of_all s es ++ cond (is_object_member n.name.0) (row J5 n.span) (when at.this_stands (super_method_rows c (super_method P c n.name.0 (count es)) n.span)))
      rows_of s (PlacedIndex a i span) = index_rows (type_of P c s a) (rows_of s a) (rows_of s i) (inner_span a)
      rows_of s (PlacedNew n es span) = rows_of_all s es ++ new_rows c (class_named P n.name.0) (count es) n.span
      rows_of s (PlacedNewArray annotations base size span) = array_rows base annotations ++ rows_of s size
      rows_of s (PlacedArrayOf annotations base es span) = array_rows base annotations ++ rows_of_all s es
      rows_of s (PlacedPostfix e step span) = assigned_rows s e
      rows_of s (PlacedPrefix step e span) = assigned_rows s e
      rows_of s (PlacedUnary o e span) = rows_of s e
      rows_of s (PlacedCast n e span) = known_class P (class_named P n.name.0) n.span ++ rows_of s e
      rows_of s (PlacedBinary a o b span) = rows_of s a ++ (rows_of s b ++ unless (rows_of s a ++ rows_of s b) (equality_rows o (is_null a || is_null b) (type_of P c s a) (type_of P c s b) span))
      rows_of s (PlacedInstanceOf e n span) = known_class P (class_named P n.name.0) n.span ++ rows_of s e
      rows_of s (PlacedConditional q a b span) = rows_of s q ++ (rows_of s a ++ rows_of s b)
      rows_of s (PlacedAssign target o e span) = assigned_rows s target ++ rows_of s e

      -- of what is assigned: a name, a field or an element
      pub assigned_rows : Scope → PlacedTree → List Row
      assigned_rows s (PlacedName n) = assigned_name_rows (meaning P c s n.name.0) n.span
      assigned_rows s (PlacedField e n span) =
          access_rows c (before_dot P c s e) (type_of P c s e) (rows_of s e) n.name.0 n.span
          ++ unless (access_rows c (before_dot P c s e) (type_of P c s e) (rows_of s e) n.name.0 n.span) (assigned_access_rows (access P c s e (type_of P c s e) n.name.0) (is_this e) span)
      assigned_rows s (PlacedIndex a i span) = index_rows (type_of P c s a) (rows_of s a) (rows_of s i) (inner_span a)
      assigned_rows s e = row J4 (span_of e)

      -- of several, one after the other
      pub rows_of_all : Scope → PlacedTrees → List Row
      rows_of_all s NoPlacedTrees = []
      rows_of_all s (MorePlacedTrees e es) = rows_of s e ++ rows_of_all s es
