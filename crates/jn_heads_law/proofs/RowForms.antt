-- Rows by what is named are the same of a bare program, places included, form by form.
use Rattle.std.proofs.Common.{◌≡◌, ℕ, Bool, true, not, cond, ◌&&◌, ◌||◌, List, ◌++◌, Option, Some, None, refl, ap, ◌∙◌}
use Rattle.std.specs.Prelude.{eqb}
use Rattle.jn_base.specs.declared.code.Code.TheVariants.{J1, J2, J4, J5}
use Rattle.jn_base.specs.declared.place.Row.{Row}
use Rattle.jn_base.specs.declared.place.Span.{Span}
use Rattle.jn_points.specs.declared.point.BaseType.{BaseType}
use Rattle.jn_points.specs.declared.point.BaseType.TheVariants.{Int, Bool as BoolBase, Void, Null, Ref, Array}
use Rattle.jn_points.specs.declared.program.Program.{Program}
use Rattle.jn_points.specs.BaseRows.{is_string}
use Rattle.jn_points.specs.Members.{constructor_of}
use Rattle.jn_points.specs.Lookup.{class_info, field_info, method_at}
use Rattle.jn_known.specs.Known.{equals_name, is_object_member}
use Rattle.jn_trees.specs.declared.expression.Annotation.{Annotation}
use Rattle.jn_trees.specs.declared.expression.Base.{Base}
use Rattle.jn_lowering.specs.Scopes.{Meaning, LocalMeant, FieldMeant, ClassMeant, SystemMeant, NothingMeant, Access, ClassField, ObjectField, ArrayLength, NoField, Callee, Println, OfText, ClassMethod, ObjectMethod, NoMethod, class_named, text_callee}
use Rattle.jn_lowering.specs.Bases.{is_class_use}
use Rattle.jn_lowering.specs.Annotations.{annotation_rows, nullity_alone, row, unless, when}
use Rattle.jn_lowering.specs.ExpressionRows.{Setting, abstract_class, abstract_method, access_rows, array_rows, assigned_access_rows, assigned_name_rows, call_rows, class_field_rows, class_method_rows, ctor_rows, dotted_call_rows, field_private, final_field, final_rows, is_text, method_private, name_rows, new_rows, object_field_rows, object_method_rows, own_field_rows, own_method_rows, private_field, private_row, reference_method_rows, string_method_rows, super_method_rows, value_field_rows, value_method_rows}
use Rattle.jn_places_law.specs.Bare.{bare}
use Rattle.jn_places_law.proofs.Lookups.{class_info_is, field_info_is, interface_is, method_at_is, method_of_is, owner_is}
use Rattle.jn_heads_law.proofs.Meanings.{base_rows_is, class_at_is}
use Rattle.jn_places_law.proofs.Meanings.{private_is, static_method_is, static_is, field_of_is, constructor_is, class_named_is}
use Rattle.jn_places_law.proofs.RowForms.{private_field_bare, final_field_bare, abstract_method_bare, abstract_class_bare}

-- ---- items

module _ (P : Program) where
  private_field_is : (f : ℕ) → private_field (field_info (bare P) f) ≡ private_field (field_info P f)
  private_field_is f = ap private_field (field_info_is P f) ∙ private_field_bare (field_info P f)

  final_field_is : (f : ℕ) → final_field (field_info (bare P) f) ≡ final_field (field_info P f)
  final_field_is f = ap final_field (field_info_is P f) ∙ final_field_bare (field_info P f)

  abstract_method_is : (m : ℕ) → abstract_method (method_at (bare P) m) ≡ abstract_method (method_at P m)
  abstract_method_is m = ap abstract_method (method_at_is P m) ∙ abstract_method_bare (method_at P m)

  abstract_class_is : (k : ℕ) → abstract_class (class_info (bare P) k) ≡ abstract_class (class_info P k)
  abstract_class_is k = ap abstract_class (class_info_is P k) ∙ abstract_class_bare (class_info P k)

  -- ---- types

  pub array_rows_is : (b : Base) (as' : List Annotation) → array_rows (bare P) b as' ≡ array_rows P b as'
  array_rows_is b as' = λ i. annotation_rows nullity_alone (is_class_use b) as' ++ base_rows_is P b i

  -- ---- fields

  field_private_is : (c f : ℕ) (span : Span) → field_private (bare P) c f span ≡ field_private P c f span
  field_private_is c f span = λ i. private_row P c (private_field_is f i) (owner_is P f i) span

  class_field_by : (c : ℕ) (o : Option ℕ) (span : Span) → class_field_rows (bare P) c o span ≡ class_field_rows P c o span
  class_field_by c None span = refl
  class_field_by c (Some f) span = λ i. field_private_is c f span i ++ when (not (static_is P f i)) (row J2 span)

  object_field_by : (c : ℕ) (o : Option ℕ) (span : Span) → object_field_rows (bare P) c o span ≡ object_field_rows P c o span
  object_field_by c None span = refl
  object_field_by c (Some f) span = λ i. field_private_is c f span i ++ when (static_is P f i) (row J2 span)

  value_field_is : (c : ℕ) (b : BaseType) (n : ℕ) (span : Span) → value_field_rows (bare P) c b n span ≡ value_field_rows P c b n span
  value_field_is c (Ref k) n span = λ i. cond (eqb k.0 1) (row J5 span) (object_field_by c (field_of_is P k.0 n i) span i)
  value_field_is c (Array e nullable) n span = refl
  value_field_is c Int n span = refl
  value_field_is c BoolBase n span = refl
  value_field_is c Void n span = refl
  value_field_is c Null n span = refl

  pub access_rows_is : (c : ℕ) (m : Meaning) (b : BaseType) (rows : List Row) (n : ℕ) (span : Span) → access_rows (bare P) c m b rows n span ≡ access_rows P c m b rows n span
  access_rows_is c (ClassMeant k) b rows n span = λ i. cond (eqb k 1) (row J5 span) (class_field_by c (field_of_is P k n i) span i)
  access_rows_is c SystemMeant b rows n span = refl
  access_rows_is c (LocalMeant l) b rows n span = λ i. rows ++ unless rows (value_field_is c b n span i)
  access_rows_is c (FieldMeant f) b rows n span = λ i. rows ++ unless rows (value_field_is c b n span i)
  access_rows_is c NothingMeant b rows n span = λ i. rows ++ unless rows (value_field_is c b n span i)

  -- ---- methods

  method_private_is : (c m : ℕ) (span : Span) → method_private (bare P) c m span ≡ method_private P c m span
  method_private_is c m span = λ i. private_row P c (private_is P m i) (class_at_is P m i) span

  class_method_by : (c : ℕ) (o : Option ℕ) (span : Span) → class_method_rows (bare P) c o span ≡ class_method_rows P c o span
  class_method_by c None span = refl
  class_method_by c (Some m) span = λ i. method_private_is c m span i ++ when (not (static_method_is P m i)) (row J2 span)

  object_method_by : (c : ℕ) (o : Option ℕ) (span : Span) → object_method_rows (bare P) c o span ≡ object_method_rows P c o span
  object_method_by c None span = refl
  object_method_by c (Some m) span = λ i. method_private_is c m span i ++ when (static_method_is P m i) (row J2 span)

  reference_method_is : (c : ℕ) (b : BaseType) (n arity : ℕ) (span : Span) → reference_method_rows (bare P) c b n arity span ≡ reference_method_rows P c b n arity span
  reference_method_is c (Ref k) n arity span = λ i. object_method_by c (method_of_is P k.0 n arity i) span i
  reference_method_is c (Array e nullable) n arity span = refl
  reference_method_is c Int n arity span = refl
  reference_method_is c BoolBase n arity span = refl
  reference_method_is c Void n arity span = refl
  reference_method_is c Null n arity span = refl

  value_method_is : (c : ℕ) (b : BaseType) (n arity : ℕ) (span : Span) → value_method_rows (bare P) c b n arity span ≡ value_method_rows P c b n arity span
  value_method_is c b n arity span = λ i. cond (is_string b) (when (not (is_text (text_callee n arity))) (row J5 span)) (cond (eqb n equals_name) (row J5 span) (reference_method_is c b n arity span i))

  -- a call on a value
  value_call_is : (c : ℕ) (b : BaseType) (rows args : List Row) (n arity : ℕ) (span : Span) →
      rows ++ (args ++ cond (is_object_member n && not (eqb n equals_name)) (row J5 span) (unless rows (value_method_rows (bare P) c b n arity span)))
      ≡ rows ++ (args ++ cond (is_object_member n && not (eqb n equals_name)) (row J5 span) (unless rows (value_method_rows P c b n arity span)))
  value_call_is c b rows args n arity span = λ i. rows ++ (args ++ cond (is_object_member n && not (eqb n equals_name)) (row J5 span) (unless rows (value_method_is c b n arity span i)))

  call_rows_is : (c : ℕ) (m : Meaning) (b : BaseType) (rows args : List Row) (n arity : ℕ) (span : Span) → call_rows (bare P) c m b rows args n arity span ≡ call_rows P c m b rows args n arity span
  call_rows_is c (ClassMeant k) b rows args n arity span = λ i. args ++ cond (eqb k 1) (string_method_rows P n arity span) (cond (is_object_member n) (row J5 span) (class_method_by c (method_of_is P k n arity i) span i))
  call_rows_is c SystemMeant b rows args n arity span = refl
  call_rows_is c (LocalMeant l) b rows args n arity span = value_call_is c b rows args n arity span
  call_rows_is c (FieldMeant f) b rows args n arity span = value_call_is c b rows args n arity span
  call_rows_is c NothingMeant b rows args n arity span = value_call_is c b rows args n arity span

  pub dotted_is : (c : ℕ) (k : Callee) (m : Meaning) (b : BaseType) (rows args : List Row) (n arity : ℕ) (span : Span) → dotted_call_rows (bare P) c k m b rows args n arity span ≡ dotted_call_rows P c k m b rows args n arity span
  dotted_is c Println m b rows args n arity span = refl
  dotted_is c (OfText op) m b rows args n arity span = call_rows_is c m b rows args n arity span
  dotted_is c (ClassMethod x) m b rows args n arity span = call_rows_is c m b rows args n arity span
  dotted_is c (ObjectMethod x) m b rows args n arity span = call_rows_is c m b rows args n arity span
  dotted_is c NoMethod m b rows args n arity span = call_rows_is c m b rows args n arity span

  pub own_method_is : (at : Setting) (o : Option ℕ) (span : Span) → own_method_rows (bare P) at o span ≡ own_method_rows P at o span
  own_method_is at None span = refl
  own_method_is at (Some m) span = λ i. when (not (static_method_is P m i) && not at.this_stands) (row J1 span)

  pub super_rows_is : (c : ℕ) (o : Option ℕ) (span : Span) → super_method_rows (bare P) c o span ≡ super_method_rows P c o span
  super_rows_is c None span = refl
  super_rows_is c (Some m) span = λ i. method_private_is c m span i ++ when (abstract_method_is m i || static_method_is P m i) (row J2 span)

  -- ---- constructors

  ctor_by : (c : ℕ) (o : Option ℕ) (span : Span) → ctor_rows (bare P) c o span ≡ ctor_rows P c o span
  ctor_by c None span = refl
  ctor_by c (Some m) span = method_private_is c m span

  pub ctor_rows_is : (c k arity : ℕ) (span : Span) → ctor_rows (bare P) c (constructor_of (bare P) k arity) span ≡ ctor_rows P c (constructor_of P k arity) span
  ctor_rows_is c k arity span = λ i. ctor_by c (constructor_is P k arity i) span i

  new_by : (c : ℕ) (o : Option ℕ) (arity : ℕ) (span : Span) → new_rows (bare P) c o arity span ≡ new_rows P c o arity span
  new_by c None arity span = refl
  new_by c (Some k) arity span = λ i. when (interface_is P k i || abstract_class_is k i) (row J2 span) ++ ctor_rows_is c k arity span i

  pub new_rows_is : (c n arity : ℕ) (span : Span) → new_rows (bare P) c (class_named (bare P) n) arity span ≡ new_rows P c (class_named P n) arity span
  new_rows_is c n arity span = λ i. new_by c (class_named_is P n i) arity span i

  -- ---- names, and what is assigned

  module _ (c : ℕ) (at : Setting) where
    own_field_is : (f : ℕ) (span : Span) → own_field_rows (bare P) c at f span ≡ own_field_rows P c at f span
    own_field_is f span = λ i. when (not (static_is P f i) && not at.this_stands) (row J1 span)

    final_is : (f : ℕ) (through_this : Bool) (span : Span) → final_rows (bare P) c at f through_this span ≡ final_rows P c at f through_this span
    final_is f through_this span = λ i. when (final_field_is f i && not (not (static_is P f i) && (at.own_fields && (eqb (owner_is P f i) c && through_this)))) (row J4 span)

    pub name_rows_is : (m : Meaning) (span : Span) → name_rows (bare P) c at m span ≡ name_rows P c at m span
    name_rows_is (LocalMeant l) span = refl
    name_rows_is (FieldMeant f) span = own_field_is f span
    name_rows_is (ClassMeant k) span = refl
    name_rows_is SystemMeant span = refl
    name_rows_is NothingMeant span = refl

    pub assigned_name_is : (m : Meaning) (span : Span) → assigned_name_rows (bare P) c at m span ≡ assigned_name_rows P c at m span
    assigned_name_is (LocalMeant l) span = refl
    assigned_name_is (FieldMeant f) span = λ i. own_field_is f span i ++ unless (own_field_is f span i) (final_is f true span i)
    assigned_name_is (ClassMeant k) span = refl
    assigned_name_is SystemMeant span = refl
    assigned_name_is NothingMeant span = refl

    pub assigned_access_is : (a : Access) (through_this : Bool) (span : Span) → assigned_access_rows (bare P) c at a through_this span ≡ assigned_access_rows P c at a through_this span
    assigned_access_is (ClassField f) through_this span = final_is f _ span
    assigned_access_is (ObjectField f) through_this span = final_is f through_this span
    assigned_access_is ArrayLength through_this span = refl
    assigned_access_is NoField through_this span = refl
