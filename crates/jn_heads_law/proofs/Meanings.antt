-- What names mean, what types forms have and what a body is given don't depend on the places of the class table.
use Rattle.std.proofs.Common.{◌≡◌, ℕ, Bool, cond, ◌&&◌, ◌||◌, List, ◌∷◌, Option, Some, None, refl, sym, ap, ◌∙◌}
use Rattle.std.specs.Prelude.{eqb}
use Rattle.jn_base.specs.declared.place.Span.{Span}
use Rattle.jn_trees.specs.declared.expression.Annotation.{Annotation}
use Rattle.jn_trees.specs.declared.expression.Base.{Base}
use Rattle.jn_trees.specs.declared.expression.Base.TheVariants.{Class as ClassUse, Int as IntUse, Boolean as BooleanUse}
use Rattle.jn_points.specs.declared.point.BaseType.{BaseType}
use Rattle.jn_points.specs.declared.point.BaseType.TheVariants.{Ref, Array}
use Rattle.jn_points.specs.declared.point.Elem.TheVariants.{Ref as RefElem}
use Rattle.jn_points.specs.declared.program.Program.{Program}
use Rattle.jn_points.specs.BaseTyping.{given_bases}
use Rattle.jn_points.specs.Lookup.{class_of, ctor_of, elem_base, method_at, params_of, static_of}
use Rattle.jn_points.specs.Members.{field_of, method_of}
use Rattle.jn_known.specs.Known.{out_name, println_name, nullable_name}
use Rattle.jn_places.specs.Placed.{PlacedTree, PlacedTrees, NoPlacedTrees, MorePlacedTrees, PlacedLiteral, PlacedName, PlacedThis, PlacedParen, PlacedField, PlacedCall, PlacedOwnCall, PlacedSuperCall, PlacedIndex, PlacedNew, PlacedNewArray, PlacedArrayOf, PlacedPostfix, PlacedPrefix, PlacedUnary, PlacedCast, PlacedBinary, PlacedInstanceOf, PlacedConditional, PlacedAssign, PlacedTypeUse}
use Rattle.jn_lowering.specs.Scopes.{Local, Scope, local_in, Meaning, LocalMeant, FieldMeant, ClassMeant, SystemMeant, NothingMeant, is_system, Println, or_zero, count, class_access, class_callee, class_named, class_or_system, field_or_class, access_by, callee_by, local_or_field, meaning, before_dot, access, is_output, callee, super_method}
use Rattle.jn_lowering.specs.Bases.{ref, elem_type, array_type, simple_type, type_by, type_of_use, has_annotation, is_class_use, access_type, result_type, callee_type, meaning_type, wider, is_local, is_local_meaning, binary_type, assign_type, operator_of, type_of}
use Rattle.jn_lowering.specs.Annotations.{known_class, base_rows}
use Rattle.jn_lowering.specs.Calls.{is_static}
use Rattle.jn_lowering.specs.Expressions.{is_register, names_register, assigns, assigns_any, local_register, register_of, own_origin, name_origin, access_origin, origin_of}
use Rattle.jn_places_law.specs.Bare.{Alike, bare}
use Rattle.jn_places_law.proofs.Lookups.{method_at_is, class_bare, ctor_bare, method_of_is}
use Rattle.jn_places_law.proofs.Meanings.{static_method_is, static_is, base_of_field, field_of_is, class_named_is, access_of_is, callee_of_is, wider_is, access_type_is, result_type_is, callee_type_is, super_method_is, own_origin_is, access_origin_is}
use Rattle.jn_places_law.proofs.Bodies.{params_bare}

-- what doesn't depend on places is the same in programs that are alike
pub carried : {A : Type 0} (f : Program → A) (P Q : Program) → Alike P Q → f (bare P) ≡ f P → f (bare Q) ≡ f Q → f P ≡ f Q
carried f P Q h p q = sym p ∙ ap f h ∙ q

module _ (P : Program) where
  pub params_is : (m : ℕ) → params_of (method_at (bare P) m) ≡ params_of (method_at P m)
  params_is m = ap params_of (method_at_is P m) ∙ params_bare (method_at P m)

  pub class_at_is : (m : ℕ) → class_of (method_at (bare P) m) ≡ class_of (method_at P m)
  class_at_is m = ap class_of (method_at_is P m) ∙ class_bare (method_at P m)

  pub ctor_at_is : (m : ℕ) → ctor_of (method_at (bare P) m) ≡ ctor_of (method_at P m)
  ctor_at_is m = ap ctor_of (method_at_is P m) ∙ ctor_bare (method_at P m)

  pub class_or_system_is : (k : Option ℕ) (n : ℕ) → class_or_system (bare P) k n ≡ class_or_system P k n
  class_or_system_is (Some k) n = refl
  class_or_system_is None n = refl

  pub field_or_class_is : (f : Option ℕ) (n : ℕ) → field_or_class (bare P) f n ≡ field_or_class P f n
  field_or_class_is (Some f) n = refl
  field_or_class_is None n = ap (λ k. class_or_system (bare P) k n) (class_named_is P n) ∙ class_or_system_is (class_named P n) n

  pub access_by_is : (m : Meaning) (b : BaseType) (n : ℕ) → access_by (bare P) m b n ≡ access_by P m b n
  access_by_is (ClassMeant k) b n = ap class_access (field_of_is P k n)
  access_by_is SystemMeant b n = refl
  access_by_is (LocalMeant l) b n = access_of_is P b n
  access_by_is (FieldMeant f) b n = access_of_is P b n
  access_by_is NothingMeant b n = access_of_is P b n

  pub callee_by_is : (m : Meaning) (b : BaseType) (n arity : ℕ) → callee_by (bare P) m b n arity ≡ callee_by P m b n arity
  callee_by_is (ClassMeant k) b n arity = ap class_callee (method_of_is P k n arity)
  callee_by_is SystemMeant b n arity = refl
  callee_by_is (LocalMeant l) b n arity = callee_of_is P b n arity
  callee_by_is (FieldMeant f) b n arity = callee_of_is P b n arity
  callee_by_is NothingMeant b n arity = callee_of_is P b n arity

  pub elem_is : (base : Base) (as' : List Annotation) → elem_type (bare P) base as' ≡ elem_type P base as'
  elem_is (ClassUse n) as' = ap (λ (k : Option ℕ). RefElem (record { 0 = or_zero k })) (class_named_is P n.name.0)
  elem_is (IntUse s) as' = refl
  elem_is (BooleanUse s) as' = refl

  pub array_is : (base : Base) (as' : List Annotation) → array_type (bare P) base as' ≡ array_type P base as'
  array_is base as' = ap (λ e. Array e (is_class_use base && has_annotation nullable_name as')) (elem_is base as')

  pub meaning_type_is : (m : Meaning) → meaning_type (bare P) m ≡ meaning_type P m
  meaning_type_is (LocalMeant l) = refl
  meaning_type_is (FieldMeant f) = base_of_field P f
  meaning_type_is (ClassMeant k) = refl
  meaning_type_is SystemMeant = refl
  meaning_type_is NothingMeant = refl

  module _ (c : ℕ) where
    pub local_or_field_is : (l : Option Local) (n : ℕ) → local_or_field (bare P) c l n ≡ local_or_field P c l n
    local_or_field_is (Some l) n = refl
    local_or_field_is None n = ap (λ f. field_or_class (bare P) f n) (field_of_is P c n) ∙ field_or_class_is (field_of P c n) n

    pub meaning_is : (s : Scope) (n : ℕ) → meaning (bare P) c s n ≡ meaning P c s n
    meaning_is s n = local_or_field_is (local_in s n) n

    pub before_is : (s : Scope) (e : PlacedTree) → before_dot (bare P) c s e ≡ before_dot P c s e
    before_is s (PlacedLiteral l span) = refl
    before_is s (PlacedName n) = meaning_is s n.name.0
    before_is s (PlacedThis span) = refl
    before_is s (PlacedParen e span) = refl
    before_is s (PlacedField e n span) = refl
    before_is s (PlacedCall e n es span) = refl
    before_is s (PlacedOwnCall n es span) = refl
    before_is s (PlacedSuperCall n es span) = refl
    before_is s (PlacedIndex a i span) = refl
    before_is s (PlacedNew n es span) = refl
    before_is s (PlacedNewArray annotations base size span) = refl
    before_is s (PlacedArrayOf annotations base es span) = refl
    before_is s (PlacedPostfix e step span) = refl
    before_is s (PlacedPrefix step e span) = refl
    before_is s (PlacedUnary o e span) = refl
    before_is s (PlacedCast n e span) = refl
    before_is s (PlacedBinary a o b span) = refl
    before_is s (PlacedInstanceOf e n span) = refl
    before_is s (PlacedConditional q a b span) = refl
    before_is s (PlacedAssign target o e span) = refl

    pub output_is : (s : Scope) (e : PlacedTree) → is_output (bare P) c s e ≡ is_output P c s e
    output_is s (PlacedLiteral l span) = refl
    output_is s (PlacedName n) = refl
    output_is s (PlacedThis span) = refl
    output_is s (PlacedParen e span) = refl
    output_is s (PlacedField (PlacedLiteral l k) n span) = refl
    output_is s (PlacedField (PlacedName f) n span) = ap (λ m. is_system m && eqb n.name.0 out_name) (meaning_is s f.name.0)
    output_is s (PlacedField (PlacedThis k) n span) = refl
    output_is s (PlacedField (PlacedParen d k) n span) = refl
    output_is s (PlacedField (PlacedField d f k) n span) = refl
    output_is s (PlacedField (PlacedCall d f es k) n span) = refl
    output_is s (PlacedField (PlacedOwnCall f es k) n span) = refl
    output_is s (PlacedField (PlacedSuperCall f es k) n span) = refl
    output_is s (PlacedField (PlacedIndex a i k) n span) = refl
    output_is s (PlacedField (PlacedNew f es k) n span) = refl
    output_is s (PlacedField (PlacedNewArray annotations base size k) n span) = refl
    output_is s (PlacedField (PlacedArrayOf annotations base es k) n span) = refl
    output_is s (PlacedField (PlacedPostfix d step k) n span) = refl
    output_is s (PlacedField (PlacedPrefix step d k) n span) = refl
    output_is s (PlacedField (PlacedUnary o d k) n span) = refl
    output_is s (PlacedField (PlacedCast f d k) n span) = refl
    output_is s (PlacedField (PlacedBinary a o b k) n span) = refl
    output_is s (PlacedField (PlacedInstanceOf d f k) n span) = refl
    output_is s (PlacedField (PlacedConditional q a b k) n span) = refl
    output_is s (PlacedField (PlacedAssign target o d k) n span) = refl
    output_is s (PlacedCall e n es span) = refl
    output_is s (PlacedOwnCall n es span) = refl
    output_is s (PlacedSuperCall n es span) = refl
    output_is s (PlacedIndex a i span) = refl
    output_is s (PlacedNew n es span) = refl
    output_is s (PlacedNewArray annotations base size span) = refl
    output_is s (PlacedArrayOf annotations base es span) = refl
    output_is s (PlacedPostfix e step span) = refl
    output_is s (PlacedPrefix step e span) = refl
    output_is s (PlacedUnary o e span) = refl
    output_is s (PlacedCast n e span) = refl
    output_is s (PlacedBinary a o b span) = refl
    output_is s (PlacedInstanceOf e n span) = refl
    output_is s (PlacedConditional q a b span) = refl
    output_is s (PlacedAssign target o e span) = refl

    pub access_is : (s : Scope) (e : PlacedTree) (b : BaseType) (n : ℕ) → access (bare P) c s e b n ≡ access P c s e b n
    access_is s e b n = ap (λ m. access_by (bare P) m b n) (before_is s e) ∙ access_by_is (before_dot P c s e) b n

    pub callee_is : (s : Scope) (e : PlacedTree) (b : BaseType) (n arity : ℕ) → callee (bare P) c s e b n arity ≡ callee P c s e b n arity
    callee_is s e b n arity =
        ap (λ x. cond (x && eqb n println_name && eqb arity 1) Println (callee_by (bare P) (before_dot (bare P) c s e) b n arity)) (output_is s e)
        ∙ ap (λ m. cond (is_output P c s e && eqb n println_name && eqb arity 1) Println (callee_by (bare P) m b n arity)) (before_is s e)
        ∙ ap (λ x. cond (is_output P c s e && eqb n println_name && eqb arity 1) Println x) (callee_by_is (before_dot P c s e) b n arity)

    pub local_is : (s : Scope) (e : PlacedTree) → is_local (bare P) c s e ≡ is_local P c s e
    local_is s (PlacedLiteral l span) = refl
    local_is s (PlacedName n) = ap is_local_meaning (meaning_is s n.name.0)
    local_is s (PlacedThis span) = refl
    local_is s (PlacedParen e span) = refl
    local_is s (PlacedField e n span) = refl
    local_is s (PlacedCall e n es span) = refl
    local_is s (PlacedOwnCall n es span) = refl
    local_is s (PlacedSuperCall n es span) = refl
    local_is s (PlacedIndex a i span) = refl
    local_is s (PlacedNew n es span) = refl
    local_is s (PlacedNewArray annotations base size span) = refl
    local_is s (PlacedArrayOf annotations base es span) = refl
    local_is s (PlacedPostfix e step span) = refl
    local_is s (PlacedPrefix step e span) = refl
    local_is s (PlacedUnary o e span) = refl
    local_is s (PlacedCast n e span) = refl
    local_is s (PlacedBinary a o b span) = refl
    local_is s (PlacedInstanceOf e n span) = refl
    local_is s (PlacedConditional q a b span) = refl
    local_is s (PlacedAssign target o e span) = refl

    pub type_is : (s : Scope) (e : PlacedTree) → type_of (bare P) c s e ≡ type_of P c s e
    type_is s (PlacedLiteral l span) = refl
    type_is s (PlacedName n) = ap (meaning_type (bare P)) (meaning_is s n.name.0) ∙ meaning_type_is (meaning P c s n.name.0)
    type_is s (PlacedThis span) = refl
    type_is s (PlacedParen e span) = type_is s e
    type_is s (PlacedField e n span) =
        ap (λ b. access_type (bare P) (access (bare P) c s e b n.name.0)) (type_is s e)
        ∙ ap (access_type (bare P)) (access_is s e (type_of P c s e) n.name.0)
        ∙ access_type_is P (access P c s e (type_of P c s e) n.name.0)
    type_is s (PlacedCall e n es span) =
        ap (λ b. callee_type (bare P) (callee (bare P) c s e b n.name.0 (count es))) (type_is s e)
        ∙ ap (callee_type (bare P)) (callee_is s e (type_of P c s e) n.name.0 (count es))
        ∙ callee_type_is P (callee P c s e (type_of P c s e) n.name.0 (count es))
    type_is s (PlacedOwnCall n es span) =
        ap (result_type (bare P)) (method_of_is P c n.name.0 (count es))
        ∙ result_type_is P (method_of P c n.name.0 (count es))
    type_is s (PlacedSuperCall n es span) =
        ap (result_type (bare P)) (super_method_is P c n.name.0 (count es))
        ∙ result_type_is P (super_method P c n.name.0 (count es))
    type_is s (PlacedIndex a i span) = ap elem_base (type_is s a)
    type_is s (PlacedNew n es span) = ap (λ k. ref (or_zero k)) (class_named_is P n.name.0)
    type_is s (PlacedNewArray annotations base size span) = array_is base annotations
    type_is s (PlacedArrayOf annotations base es span) = array_is base annotations
    type_is s (PlacedPostfix e step span) = type_is s e
    type_is s (PlacedPrefix step e span) = refl
    type_is s (PlacedUnary o e span) = refl
    type_is s (PlacedCast n e span) = ap (λ k. ref (or_zero k)) (class_named_is P n.name.0)
    type_is s (PlacedBinary a o b span) = ap (λ x. binary_type (operator_of o) x (type_of (bare P) c s b)) (type_is s a) ∙ ap (binary_type (operator_of o) (type_of P c s a)) (type_is s b)
    type_is s (PlacedInstanceOf e n span) = refl
    type_is s (PlacedConditional q a b span) = ap (λ x. wider (bare P) x (type_of (bare P) c s b)) (type_is s a) ∙ ap (wider (bare P) (type_of P c s a)) (type_is s b) ∙ wider_is P (type_of P c s a) (type_of P c s b)
    type_is s (PlacedAssign target o e span) =
        ap (λ x. assign_type (bare P) c o x (type_of (bare P) c s target) (type_of (bare P) c s e)) (local_is s target)
        ∙ ap (λ x. assign_type (bare P) c o (is_local P c s target) x (type_of (bare P) c s e)) (type_is s target)
        ∙ ap (assign_type P c o (is_local P c s target) (type_of P c s target)) (type_is s e)

    pub register_meant : (m : Meaning) (r : ℕ) → is_register (bare P) c m r ≡ is_register P c m r
    register_meant (LocalMeant l) r = refl
    register_meant (FieldMeant f) r = refl
    register_meant (ClassMeant k) r = refl
    register_meant SystemMeant r = refl
    register_meant NothingMeant r = refl

    pub names_is : (s : Scope) (r : ℕ) (e : PlacedTree) → names_register (bare P) c s r e ≡ names_register P c s r e
    names_is s r (PlacedLiteral l span) = refl
    names_is s r (PlacedName n) = ap (λ m. is_register (bare P) c m r) (meaning_is s n.name.0) ∙ register_meant (meaning P c s n.name.0) r
    names_is s r (PlacedThis span) = refl
    names_is s r (PlacedParen e span) = refl
    names_is s r (PlacedField e n span) = refl
    names_is s r (PlacedCall e n es span) = refl
    names_is s r (PlacedOwnCall n es span) = refl
    names_is s r (PlacedSuperCall n es span) = refl
    names_is s r (PlacedIndex a i span) = refl
    names_is s r (PlacedNew n es span) = refl
    names_is s r (PlacedNewArray annotations base size span) = refl
    names_is s r (PlacedArrayOf annotations base es span) = refl
    names_is s r (PlacedPostfix e step span) = refl
    names_is s r (PlacedPrefix step e span) = refl
    names_is s r (PlacedUnary o e span) = refl
    names_is s r (PlacedCast n e span) = refl
    names_is s r (PlacedBinary a o b span) = refl
    names_is s r (PlacedInstanceOf e n span) = refl
    names_is s r (PlacedConditional q a b span) = refl
    names_is s r (PlacedAssign target o e span) = refl

    either : {a b x y : Bool} → a ≡ b → x ≡ y → (a || x) ≡ (b || y)
    either {a} {b} {x} {y} h k = ap (λ z. z || x) h ∙ ap (λ z. b || z) k

    mutual
      pub assigns_is : (s : Scope) (r : ℕ) (e : PlacedTree) → assigns (bare P) c s r e ≡ assigns P c s r e
      assigns_is s r (PlacedLiteral l span) = refl
      assigns_is s r (PlacedName n) = refl
      assigns_is s r (PlacedThis span) = refl
      assigns_is s r (PlacedParen e span) = assigns_is s r e
      assigns_is s r (PlacedField e n span) = assigns_is s r e
      assigns_is s r (PlacedCall e n es span) = either (assigns_is s r e) (any_is s r es)
      assigns_is s r (PlacedOwnCall n es span) = any_is s r es
      assigns_is s r (PlacedSuperCall n es span) = any_is s r es
      assigns_is s r (PlacedIndex a i span) = either (assigns_is s r a) (assigns_is s r i)
      assigns_is s r (PlacedNew n es span) = any_is s r es
      assigns_is s r (PlacedNewArray annotations base size span) = assigns_is s r size
      assigns_is s r (PlacedArrayOf annotations base es span) = any_is s r es
      assigns_is s r (PlacedPostfix e step span) = either (names_is s r e) (assigns_is s r e)
      assigns_is s r (PlacedPrefix step e span) = either (names_is s r e) (assigns_is s r e)
      assigns_is s r (PlacedUnary o e span) = assigns_is s r e
      assigns_is s r (PlacedCast n e span) = assigns_is s r e
      assigns_is s r (PlacedBinary a o b span) = either (assigns_is s r a) (assigns_is s r b)
      assigns_is s r (PlacedInstanceOf e n span) = assigns_is s r e
      assigns_is s r (PlacedConditional q a b span) = either (assigns_is s r q) (either (assigns_is s r a) (assigns_is s r b))
      assigns_is s r (PlacedAssign target o e span) = either (names_is s r target) (either (assigns_is s r target) (assigns_is s r e))

      pub any_is : (s : Scope) (r : ℕ) (es : PlacedTrees) → assigns_any (bare P) c s r es ≡ assigns_any P c s r es
      any_is s r NoPlacedTrees = refl
      any_is s r (MorePlacedTrees e es) = either (assigns_is s r e) (any_is s r es)

    pub register_in : (m : Meaning) → local_register (bare P) c m ≡ local_register P c m
    register_in (LocalMeant l) = refl
    register_in (FieldMeant f) = refl
    register_in (ClassMeant k) = refl
    register_in SystemMeant = refl
    register_in NothingMeant = refl

    pub register_is : (s : Scope) (e : PlacedTree) → register_of (bare P) c s e ≡ register_of P c s e
    register_is s (PlacedLiteral l span) = refl
    register_is s (PlacedName n) = ap (local_register (bare P) c) (meaning_is s n.name.0) ∙ register_in (meaning P c s n.name.0)
    register_is s (PlacedThis span) = refl
    register_is s (PlacedParen e span) = register_is s e
    register_is s (PlacedField e n span) = refl
    register_is s (PlacedCall e n es span) = refl
    register_is s (PlacedOwnCall n es span) = refl
    register_is s (PlacedSuperCall n es span) = refl
    register_is s (PlacedIndex a i span) = refl
    register_is s (PlacedNew n es span) = refl
    register_is s (PlacedNewArray annotations base size span) = refl
    register_is s (PlacedArrayOf annotations base es span) = refl
    register_is s (PlacedPostfix e step span) = refl
    register_is s (PlacedPrefix step e span) = refl
    register_is s (PlacedUnary o e span) = refl
    register_is s (PlacedCast n e span) = refl
    register_is s (PlacedBinary a o b span) = refl
    register_is s (PlacedInstanceOf e n span) = refl
    register_is s (PlacedConditional q a b span) = refl
    register_is s (PlacedAssign target o e span) = refl

    pub name_origin_is : (m : Meaning) → name_origin (bare P) c m ≡ name_origin P c m
    name_origin_is (LocalMeant l) = refl
    name_origin_is (FieldMeant f) = ap (λ b. own_origin (bare P) c b f) (static_is P f) ∙ own_origin_is P c (is_static P f) f
    name_origin_is (ClassMeant k) = refl
    name_origin_is SystemMeant = refl
    name_origin_is NothingMeant = refl

    pub origin_is : (s : Scope) (e : PlacedTree) → origin_of (bare P) c s e ≡ origin_of P c s e
    origin_is s (PlacedLiteral l span) = refl
    origin_is s (PlacedName n) = ap (name_origin (bare P) c) (meaning_is s n.name.0) ∙ name_origin_is (meaning P c s n.name.0)
    origin_is s (PlacedThis span) = refl
    origin_is s (PlacedParen e span) = origin_is s e
    origin_is s (PlacedField e n span) =
        ap (λ r. access_origin (bare P) c r (access (bare P) c s e (type_of (bare P) c s e) n.name.0)) (register_is s e)
        ∙ ap (λ b. access_origin (bare P) c (register_of P c s e) (access (bare P) c s e b n.name.0)) (type_is s e)
        ∙ ap (access_origin (bare P) c (register_of P c s e)) (access_is s e (type_of P c s e) n.name.0)
        ∙ access_origin_is P c (register_of P c s e) (access P c s e (type_of P c s e) n.name.0)
    origin_is s (PlacedCall e n es span) = refl
    origin_is s (PlacedOwnCall n es span) = refl
    origin_is s (PlacedSuperCall n es span) = refl
    origin_is s (PlacedIndex a i span) = refl
    origin_is s (PlacedNew n es span) = refl
    origin_is s (PlacedNewArray annotations base size span) = refl
    origin_is s (PlacedArrayOf annotations base es span) = refl
    origin_is s (PlacedPostfix e step span) = refl
    origin_is s (PlacedPrefix step e span) = refl
    origin_is s (PlacedUnary o e span) = refl
    origin_is s (PlacedCast n e span) = refl
    origin_is s (PlacedBinary a o b span) = refl
    origin_is s (PlacedInstanceOf e n span) = refl
    origin_is s (PlacedConditional q a b span) = refl
    origin_is s (PlacedAssign target o e span) = refl

  -- the types and the qualifiers that are written

  simple_is : (base : Base) → simple_type (bare P) base ≡ simple_type P base
  simple_is (ClassUse n) = ap (λ k. ref (or_zero k)) (class_named_is P n.name.0)
  simple_is (IntUse s) = refl
  simple_is (BooleanUse s) = refl

  type_by_is : (base : Base) (brackets : Option (List Annotation)) (as' : List Annotation) → type_by (bare P) base brackets as' ≡ type_by P base brackets as'
  type_by_is base None as' = simple_is base
  type_by_is base (Some brackets) as' = array_is base as'

  pub type_of_use_is : (u : PlacedTypeUse) (as' : List Annotation) → type_of_use (bare P) u as' ≡ type_of_use P u as'
  type_of_use_is u as' = type_by_is u.base u.array as'

  known_class_is : (k : Option ℕ) (span : Span) → known_class (bare P) k span ≡ known_class P k span
  known_class_is None span = refl
  known_class_is (Some k) span = refl

  pub base_rows_is : (base : Base) → base_rows (bare P) base ≡ base_rows P base
  base_rows_is (ClassUse n) = ap (λ k. known_class (bare P) k n.span) (class_named_is P n.name.0) ∙ known_class_is (class_named P n.name.0) n.span
  base_rows_is (IntUse s) = refl
  base_rows_is (BooleanUse s) = refl

  -- what a body is given

  pub given_is : (m : ℕ) → given_bases (bare P) m ≡ given_bases P m
  given_is m =
      ap (λ b. cond b (params_of (method_at (bare P) m)) (Ref (record { 0 = class_of (method_at (bare P) m) }) ∷ params_of (method_at (bare P) m))) (static_method_is P m)
      ∙ ap (λ ps. cond (static_of (method_at P m)) ps (Ref (record { 0 = class_of (method_at (bare P) m) }) ∷ ps)) (params_is m)
      ∙ ap (λ k. cond (static_of (method_at P m)) (params_of (method_at P m)) (Ref (record { 0 = k }) ∷ params_of (method_at P m))) (class_at_is m)
