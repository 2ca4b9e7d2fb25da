-- What names mean and what types forms have is the same without places.
use Rattle.std.proofs.Common.{◌≡◌, ℕ, suc, Bool, true, false, cond, not, ◌&&◌, ◌||◌, List, [], ◌∷◌, length, Option, Some, None, refl, ap, ◌∙◌}
use Rattle.std.specs.Prelude.{eqb, option_map}
use Rattle.std.proofs.Math.Path.{fun_ext}
use Rattle.jn_base.specs.declared.number.ClassNo.{ClassNo}
use Rattle.jn_trees.specs.declared.expression.Annotation.{Annotation}
use Rattle.jn_trees.specs.declared.expression.Base.{Base}
use Rattle.jn_trees.specs.declared.expression.Base.TheVariants.{Class as ClassUse, Int as IntUse, Boolean as BooleanUse}
use Rattle.jn_trees.specs.declared.expression.Literal.TheVariants.{Number, Str as Text, True, False, Null as NullLiteral}
use Rattle.jn_points.specs.declared.point.BaseType.{BaseType}
use Rattle.jn_points.specs.declared.point.BaseType.TheVariants.{Int, Bool as BoolBase, Void, Null, Ref, Array}
use Rattle.jn_points.specs.declared.point.Elem.TheVariants.{Ref as RefElem}
use Rattle.jn_points.specs.declared.program.Field.{Field}
use Rattle.jn_points.specs.declared.program.Method.{Method}
use Rattle.jn_points.specs.declared.program.Program.{Program}
use Rattle.jn_points.specs.Lookup.{elem_base, field_base, field_info, method_at, result_base_of, private_of, static_of, parent_of, class_info}
use Rattle.jn_points.specs.Members.{first_some, walk, declared_field, field_of, method_of, constructor_of, type_within}
use Rattle.jn_points.specs.Regular.{static_field}
use Rattle.jn_known.specs.Known.{system_name, out_name, println_name, nullable_name}
use Rattle.jn_places.specs.Placed.{PlacedTree, PlacedTrees, NoPlacedTrees, MorePlacedTrees, PlacedLiteral, PlacedName, PlacedThis, PlacedParen, PlacedField, PlacedCall, PlacedOwnCall, PlacedSuperCall, PlacedIndex, PlacedNew, PlacedNewArray, PlacedArrayOf, PlacedPostfix, PlacedPrefix, PlacedUnary, PlacedCast, PlacedBinary, PlacedInstanceOf, PlacedConditional, PlacedAssign}
use Rattle.jn_lowering.specs.Scopes.{Local, Scope, local_in, Meaning, LocalMeant, FieldMeant, ClassMeant, SystemMeant, NothingMeant, is_system, Access, ClassField, ObjectField, ArrayLength, NoField, Callee, Println, OfText, ClassMethod, ObjectMethod, NoMethod, or_zero, count, object_access, class_access, text_callee, object_callee, class_callee, class_named, class_or_system, field_or_class, access_of, access_by, callee_of, callee_by, parent_class, local_or_field, meaning, before_dot, access, is_output, callee, super_method}
use Rattle.jn_lowering.specs.Bases.{ref, elem_type, array_type, has_annotation, is_class_use, access_type, result_type, callee_type, meaning_type, wider, is_local, is_local_meaning, binary_type, assign_type, operator_of, type_of}
use Rattle.jn_lowering.specs.Calls.{is_static}
use Rattle.jn_lowering.specs.Expressions.{is_null, span_of, is_register, names_register, assigns, assigns_any, local_register, register_of, own_origin, name_origin, access_origin, origin_of}
use Rattle.jn_places_law.specs.Bare.{bare, bare_class, bare_field, bare_method, no_span}
use Rattle.jn_places_law.proofs.Lookups.{first_at-map, field_info_is, method_at_is, static_bare, parent_is, sub_is, walk_is, method_of_is}
use Rattle.jn_places_law.specs.Erased.{bare_local, bare_scope, bare_meaning, bare_annotations, bare_base, bare_tree, bare_trees}
use Rattle.jn_places_law.proofs.Forms.{field_base_is}

-- trees

pub count_bare : (es : PlacedTrees) → count (bare_trees es) ≡ count es
count_bare NoPlacedTrees = refl
count_bare (MorePlacedTrees e es) = ap suc (count_bare es)

pub span_bare : (e : PlacedTree) → span_of (bare_tree e) ≡ no_span
span_bare (PlacedLiteral l span) = refl
span_bare (PlacedName n) = refl
span_bare (PlacedThis span) = refl
span_bare (PlacedParen e span) = refl
span_bare (PlacedField e n span) = refl
span_bare (PlacedCall e n es span) = refl
span_bare (PlacedOwnCall n es span) = refl
span_bare (PlacedSuperCall n es span) = refl
span_bare (PlacedIndex a i span) = refl
span_bare (PlacedNew n es span) = refl
span_bare (PlacedNewArray annotations base size span) = refl
span_bare (PlacedArrayOf annotations base es span) = refl
span_bare (PlacedPostfix e step span) = refl
span_bare (PlacedPrefix step e span) = refl
span_bare (PlacedUnary o e span) = refl
span_bare (PlacedCast n e span) = refl
span_bare (PlacedBinary a o b span) = refl
span_bare (PlacedInstanceOf e n span) = refl
span_bare (PlacedConditional q a b span) = refl
span_bare (PlacedAssign target o e span) = refl

pub null_bare : (e : PlacedTree) → is_null (bare_tree e) ≡ is_null e
null_bare (PlacedLiteral (Number n) span) = refl
null_bare (PlacedLiteral (Text n) span) = refl
null_bare (PlacedLiteral True span) = refl
null_bare (PlacedLiteral False span) = refl
null_bare (PlacedLiteral NullLiteral span) = refl
null_bare (PlacedName n) = refl
null_bare (PlacedThis span) = refl
null_bare (PlacedParen e span) = null_bare e
null_bare (PlacedField e n span) = refl
null_bare (PlacedCall e n es span) = refl
null_bare (PlacedOwnCall n es span) = refl
null_bare (PlacedSuperCall n es span) = refl
null_bare (PlacedIndex a i span) = refl
null_bare (PlacedNew n es span) = refl
null_bare (PlacedNewArray annotations base size span) = refl
null_bare (PlacedArrayOf annotations base es span) = refl
null_bare (PlacedPostfix e step span) = refl
null_bare (PlacedPrefix step e span) = refl
null_bare (PlacedUnary o e span) = refl
null_bare (PlacedCast n e span) = refl
null_bare (PlacedBinary a o b span) = refl
null_bare (PlacedInstanceOf e n span) = refl
null_bare (PlacedConditional q a b span) = refl
null_bare (PlacedAssign target o e span) = refl

annotation_bare : (n : ℕ) (as' : List Annotation) → has_annotation n (bare_annotations as') ≡ has_annotation n as'
annotation_bare n [] = refl
annotation_bare n (a ∷ as') = ap (λ b. eqb a.name.0 n || b) (annotation_bare n as')

pub class_use_bare : (base : Base) → is_class_use (bare_base base) ≡ is_class_use base
class_use_bare (ClassUse n) = refl
class_use_bare (IntUse s) = refl
class_use_bare (BooleanUse s) = refl

pub local_bare : (s : Scope) (n : ℕ) → local_in (bare_scope s) n ≡ option_map bare_local (local_in s n)
local_bare [] n = refl
local_bare (l ∷ ls) n = cases (eqb l.name n) (local_in (bare_scope ls) n) (local_in ls n) (local_bare ls n)
  where
    cases : (b : Bool) (x y : Option Local) → x ≡ option_map bare_local y → cond b (Some (bare_local l)) x ≡ option_map bare_local (cond b (Some l) y)
    cases true x y h = refl
    cases false x y h = h

pub result_bare : (m : Option Method) → result_base_of (option_map bare_method m) ≡ result_base_of m
result_bare None = refl
result_bare (Some m) = refl

private_bare : (m : Option Method) → private_of (option_map bare_method m) ≡ private_of m
private_bare None = refl
private_bare (Some m) = refl

local_meant : (m : Meaning) → is_local_meaning (bare_meaning m) ≡ is_local_meaning m
local_meant (LocalMeant l) = refl
local_meant (FieldMeant f) = refl
local_meant (ClassMeant k) = refl
local_meant SystemMeant = refl
local_meant NothingMeant = refl

system_meant : (m : Meaning) → is_system (bare_meaning m) ≡ is_system m
system_meant (LocalMeant l) = refl
system_meant (FieldMeant f) = refl
system_meant (ClassMeant k) = refl
system_meant SystemMeant = refl
system_meant NothingMeant = refl

module _ (P : Program) where
  pub result_is : (m : ℕ) → result_base_of (method_at (bare P) m) ≡ result_base_of (method_at P m)
  result_is m = ap result_base_of (method_at_is P m) ∙ result_bare (method_at P m)

  pub private_is : (m : ℕ) → private_of (method_at (bare P) m) ≡ private_of (method_at P m)
  private_is m = ap private_of (method_at_is P m) ∙ private_bare (method_at P m)

  pub static_method_is : (m : ℕ) → static_of (method_at (bare P) m) ≡ static_of (method_at P m)
  static_method_is m = ap static_of (method_at_is P m) ∙ static_bare (method_at P m)

  static_field_bare : (f : Option Field) → static_field (bare P) (option_map bare_field f) ≡ static_field P f
  static_field_bare None = refl
  static_field_bare (Some f) = refl

  pub static_is : (f : ℕ) → is_static (bare P) f ≡ is_static P f
  static_is f = ap (static_field (bare P)) (field_info_is P f) ∙ static_field_bare (field_info P f)

  pub base_of_field : (f : ℕ) → field_base (bare P) f ≡ field_base P f
  base_of_field f = field_base_is P 0 f

  pub declared_field_is : (c name d : ℕ) → declared_field (bare P) c name d ≡ declared_field P c name d
  declared_field_is c name d = first_at-map bare_field (λ f. eqb f.name.0 name && eqb f.owner.0 d && (not f.is_private || eqb d c)) 0 P.fields

  pub field_of_is : (c name : ℕ) → field_of (bare P) c name ≡ field_of P c name
  field_of_is c name = ap (λ f. first_some f (walk (bare P) c)) (fun_ext (declared_field_is c name)) ∙ ap (first_some (declared_field P c name)) (walk_is P c)

  pub constructor_is : (c arity : ℕ) → constructor_of (bare P) c arity ≡ constructor_of P c arity
  constructor_is c arity = first_at-map bare_method (λ m. m.ctor && eqb m.owner.0 c && eqb (length m.params) arity) 0 P.methods

  pub class_named_is : (n : ℕ) → class_named (bare P) n ≡ class_named P n
  class_named_is n = first_at-map bare_class (λ k. eqb k.name.0 n) 0 P.classes

  class_or_system_is : (k : Option ℕ) (n : ℕ) → class_or_system (bare P) k n ≡ bare_meaning (class_or_system P k n)
  class_or_system_is (Some k) n = refl
  class_or_system_is None n = cases (eqb n system_name)
    where
      cases : (b : Bool) → cond b SystemMeant NothingMeant ≡ bare_meaning (cond b SystemMeant NothingMeant)
      cases true = refl
      cases false = refl

  field_or_class_is : (f : Option ℕ) (n : ℕ) → field_or_class (bare P) f n ≡ bare_meaning (field_or_class P f n)
  field_or_class_is (Some f) n = refl
  field_or_class_is None n = ap (λ k. class_or_system (bare P) k n) (class_named_is n) ∙ class_or_system_is (class_named P n) n

  pub access_of_is : (b : BaseType) (n : ℕ) → access_of (bare P) b n ≡ access_of P b n
  access_of_is (Ref k) n = ap object_access (field_of_is k.0 n)
  access_of_is (Array e nullable) n = refl
  access_of_is Int n = refl
  access_of_is BoolBase n = refl
  access_of_is Void n = refl
  access_of_is Null n = refl

  access_by_is : (m : Meaning) (b : BaseType) (n : ℕ) → access_by (bare P) (bare_meaning m) b n ≡ access_by P m b n
  access_by_is (ClassMeant k) b n = ap class_access (field_of_is k n)
  access_by_is SystemMeant b n = refl
  access_by_is (LocalMeant l) b n = access_of_is b n
  access_by_is (FieldMeant f) b n = access_of_is b n
  access_by_is NothingMeant b n = access_of_is b n

  pub callee_of_is : (b : BaseType) (n arity : ℕ) → callee_of (bare P) b n arity ≡ callee_of P b n arity
  callee_of_is (Ref k) n arity = ap (λ m. cond (eqb k.0 1) (text_callee n arity) (object_callee m)) (method_of_is P k.0 n arity)
  callee_of_is (Array e nullable) n arity = refl
  callee_of_is Int n arity = refl
  callee_of_is BoolBase n arity = refl
  callee_of_is Void n arity = refl
  callee_of_is Null n arity = refl

  callee_by_is : (m : Meaning) (b : BaseType) (n arity : ℕ) → callee_by (bare P) (bare_meaning m) b n arity ≡ callee_by P m b n arity
  callee_by_is (ClassMeant k) b n arity = ap class_callee (method_of_is P k n arity)
  callee_by_is SystemMeant b n arity = refl
  callee_by_is (LocalMeant l) b n arity = callee_of_is b n arity
  callee_by_is (FieldMeant f) b n arity = callee_of_is b n arity
  callee_by_is NothingMeant b n arity = callee_of_is b n arity

  pub wider_is : (a b : BaseType) → wider (bare P) a b ≡ wider P a b
  wider_is a b = ap (λ (r : ℕ → ℕ → Bool). cond (type_within r a b) b a) (fun_ext (λ c. fun_ext (sub_is P c)))

  elem_is : (base : Base) (as' : List Annotation) → elem_type (bare P) (bare_base base) (bare_annotations as') ≡ elem_type P base as'
  elem_is (ClassUse n) as' = ap (λ (k : Option ℕ). RefElem (record { 0 = or_zero k })) (class_named_is n.name.0)
  elem_is (IntUse s) as' = refl
  elem_is (BooleanUse s) as' = refl

  pub array_is : (base : Base) (as' : List Annotation) → array_type (bare P) (bare_base base) (bare_annotations as') ≡ array_type P base as'
  array_is base as' =
      ap (λ e. Array e (is_class_use (bare_base base) && has_annotation nullable_name (bare_annotations as'))) (elem_is base as')
      ∙ ap (λ b. Array (elem_type P base as') (b && has_annotation nullable_name (bare_annotations as'))) (class_use_bare base)
      ∙ ap (λ b. Array (elem_type P base as') (is_class_use base && b)) (annotation_bare nullable_name as')

  pub access_type_is : (a : Access) → access_type (bare P) a ≡ access_type P a
  access_type_is (ClassField f) = base_of_field f
  access_type_is (ObjectField f) = base_of_field f
  access_type_is ArrayLength = refl
  access_type_is NoField = refl

  pub result_type_is : (m : Option ℕ) → result_type (bare P) m ≡ result_type P m
  result_type_is None = refl
  result_type_is (Some m) = result_is m

  pub callee_type_is : (k : Callee) → callee_type (bare P) k ≡ callee_type P k
  callee_type_is Println = refl
  callee_type_is (OfText op) = refl
  callee_type_is (ClassMethod m) = result_is m
  callee_type_is (ObjectMethod m) = result_is m
  callee_type_is NoMethod = refl

  meaning_type_is : (m : Meaning) → meaning_type (bare P) (bare_meaning m) ≡ meaning_type P m
  meaning_type_is (LocalMeant l) = refl
  meaning_type_is (FieldMeant f) = base_of_field f
  meaning_type_is (ClassMeant k) = refl
  meaning_type_is SystemMeant = refl
  meaning_type_is NothingMeant = refl

  pub parent_class_is : (c : ℕ) → parent_class (bare P) (parent_of (class_info (bare P) c)) ≡ parent_class P (parent_of (class_info P c))
  parent_class_is c = ap (parent_class (bare P)) (parent_is P c) ∙ same (parent_of (class_info P c))
    where
      same : (k : Option ClassNo) → parent_class (bare P) k ≡ parent_class P k
      same None = refl
      same (Some k) = refl

  module _ (c : ℕ) where
    local_or_field_is : (l : Option Local) (n : ℕ) → local_or_field (bare P) c (option_map bare_local l) n ≡ bare_meaning (local_or_field P c l n)
    local_or_field_is (Some l) n = refl
    local_or_field_is None n = ap (λ f. field_or_class (bare P) f n) (field_of_is c n) ∙ field_or_class_is (field_of P c n) n

    pub meaning_is : (s : Scope) (n : ℕ) → meaning (bare P) c (bare_scope s) n ≡ bare_meaning (meaning P c s n)
    meaning_is s n = ap (λ l. local_or_field (bare P) c l n) (local_bare s n) ∙ local_or_field_is (local_in s n) n

    super_is : (n arity : ℕ) → super_method (bare P) c n arity ≡ super_method P c n arity
    super_is n arity = ap (λ k. method_of (bare P) k n arity) (parent_class_is c) ∙ method_of_is P (parent_class P (parent_of (class_info P c))) n arity

    pub super_method_is : (n arity : ℕ) → super_method (bare P) c n arity ≡ super_method P c n arity
    super_method_is = super_is

    pub before_is : (s : Scope) (e : PlacedTree) → before_dot (bare P) c (bare_scope s) (bare_tree e) ≡ bare_meaning (before_dot P c s e)
    before_is s (PlacedLiteral l span) = refl
    before_is s (PlacedName n) = meaning_is s n.name.0
    before_is s (PlacedThis span) = refl
    before_is s (PlacedParen e span) = refl
    before_is s (PlacedField e n span) = refl
    before_is s (PlacedCall e n es span) = refl
    before_is s (PlacedOwnCall n es span) = refl
    before_is s (PlacedSuperCall n es span) = refl
    before_is s (PlacedIndex a i span) = refl
    before_is s (PlacedNew n es span) = refl
    before_is s (PlacedNewArray annotations base size span) = refl
    before_is s (PlacedArrayOf annotations base es span) = refl
    before_is s (PlacedPostfix e step span) = refl
    before_is s (PlacedPrefix step e span) = refl
    before_is s (PlacedUnary o e span) = refl
    before_is s (PlacedCast n e span) = refl
    before_is s (PlacedBinary a o b span) = refl
    before_is s (PlacedInstanceOf e n span) = refl
    before_is s (PlacedConditional q a b span) = refl
    before_is s (PlacedAssign target o e span) = refl

    output_is : (s : Scope) (e : PlacedTree) → is_output (bare P) c (bare_scope s) (bare_tree e) ≡ is_output P c s e
    output_is s (PlacedLiteral l span) = refl
    output_is s (PlacedName n) = refl
    output_is s (PlacedThis span) = refl
    output_is s (PlacedParen e span) = refl
    output_is s (PlacedField (PlacedLiteral l k) n span) = refl
    output_is s (PlacedField (PlacedName f) n span) = ap (λ m. is_system m && eqb n.name.0 out_name) (meaning_is s f.name.0) ∙ ap (λ b. b && eqb n.name.0 out_name) (system_meant (meaning P c s f.name.0))
    output_is s (PlacedField (PlacedThis k) n span) = refl
    output_is s (PlacedField (PlacedParen d k) n span) = refl
    output_is s (PlacedField (PlacedField d f k) n span) = refl
    output_is s (PlacedField (PlacedCall d f es k) n span) = refl
    output_is s (PlacedField (PlacedOwnCall f es k) n span) = refl
    output_is s (PlacedField (PlacedSuperCall f es k) n span) = refl
    output_is s (PlacedField (PlacedIndex a i k) n span) = refl
    output_is s (PlacedField (PlacedNew f es k) n span) = refl
    output_is s (PlacedField (PlacedNewArray annotations base size k) n span) = refl
    output_is s (PlacedField (PlacedArrayOf annotations base es k) n span) = refl
    output_is s (PlacedField (PlacedPostfix d step k) n span) = refl
    output_is s (PlacedField (PlacedPrefix step d k) n span) = refl
    output_is s (PlacedField (PlacedUnary o d k) n span) = refl
    output_is s (PlacedField (PlacedCast f d k) n span) = refl
    output_is s (PlacedField (PlacedBinary a o b k) n span) = refl
    output_is s (PlacedField (PlacedInstanceOf d f k) n span) = refl
    output_is s (PlacedField (PlacedConditional q a b k) n span) = refl
    output_is s (PlacedField (PlacedAssign target o d k) n span) = refl
    output_is s (PlacedCall e n es span) = refl
    output_is s (PlacedOwnCall n es span) = refl
    output_is s (PlacedSuperCall n es span) = refl
    output_is s (PlacedIndex a i span) = refl
    output_is s (PlacedNew n es span) = refl
    output_is s (PlacedNewArray annotations base size span) = refl
    output_is s (PlacedArrayOf annotations base es span) = refl
    output_is s (PlacedPostfix e step span) = refl
    output_is s (PlacedPrefix step e span) = refl
    output_is s (PlacedUnary o e span) = refl
    output_is s (PlacedCast n e span) = refl
    output_is s (PlacedBinary a o b span) = refl
    output_is s (PlacedInstanceOf e n span) = refl
    output_is s (PlacedConditional q a b span) = refl
    output_is s (PlacedAssign target o e span) = refl

    pub access_is : (s : Scope) (e : PlacedTree) (b : BaseType) (n : ℕ) → access (bare P) c (bare_scope s) (bare_tree e) b n ≡ access P c s e b n
    access_is s e b n = ap (λ m. access_by (bare P) m b n) (before_is s e) ∙ access_by_is (before_dot P c s e) b n

    pub callee_is : (s : Scope) (e : PlacedTree) (b : BaseType) (n arity : ℕ) → callee (bare P) c (bare_scope s) (bare_tree e) b n arity ≡ callee P c s e b n arity
    callee_is s e b n arity =
        ap (λ x. cond (x && eqb n println_name && eqb arity 1) Println (callee_by (bare P) (before_dot (bare P) c (bare_scope s) (bare_tree e)) b n arity)) (output_is s e)
        ∙ ap (λ m. cond (is_output P c s e && eqb n println_name && eqb arity 1) Println (callee_by (bare P) m b n arity)) (before_is s e)
        ∙ ap (λ x. cond (is_output P c s e && eqb n println_name && eqb arity 1) Println x) (callee_by_is (before_dot P c s e) b n arity)

    local_is : (s : Scope) (e : PlacedTree) → is_local (bare P) c (bare_scope s) (bare_tree e) ≡ is_local P c s e
    local_is s (PlacedLiteral l span) = refl
    local_is s (PlacedName n) = ap is_local_meaning (meaning_is s n.name.0) ∙ local_meant (meaning P c s n.name.0)
    local_is s (PlacedThis span) = refl
    local_is s (PlacedParen e span) = refl
    local_is s (PlacedField e n span) = refl
    local_is s (PlacedCall e n es span) = refl
    local_is s (PlacedOwnCall n es span) = refl
    local_is s (PlacedSuperCall n es span) = refl
    local_is s (PlacedIndex a i span) = refl
    local_is s (PlacedNew n es span) = refl
    local_is s (PlacedNewArray annotations base size span) = refl
    local_is s (PlacedArrayOf annotations base es span) = refl
    local_is s (PlacedPostfix e step span) = refl
    local_is s (PlacedPrefix step e span) = refl
    local_is s (PlacedUnary o e span) = refl
    local_is s (PlacedCast n e span) = refl
    local_is s (PlacedBinary a o b span) = refl
    local_is s (PlacedInstanceOf e n span) = refl
    local_is s (PlacedConditional q a b span) = refl
    local_is s (PlacedAssign target o e span) = refl

    pub type_is : (s : Scope) (e : PlacedTree) → type_of (bare P) c (bare_scope s) (bare_tree e) ≡ type_of P c s e
    type_is s (PlacedLiteral l span) = refl
    type_is s (PlacedName n) = ap (meaning_type (bare P)) (meaning_is s n.name.0) ∙ meaning_type_is (meaning P c s n.name.0)
    type_is s (PlacedThis span) = refl
    type_is s (PlacedParen e span) = type_is s e
    type_is s (PlacedField e n span) =
        ap (λ b. access_type (bare P) (access (bare P) c (bare_scope s) (bare_tree e) b n.name.0)) (type_is s e)
        ∙ ap (access_type (bare P)) (access_is s e (type_of P c s e) n.name.0)
        ∙ access_type_is (access P c s e (type_of P c s e) n.name.0)
    type_is s (PlacedCall e n es span) =
        ap (λ b. callee_type (bare P) (callee (bare P) c (bare_scope s) (bare_tree e) b n.name.0 (count (bare_trees es)))) (type_is s e)
        ∙ ap (λ k. callee_type (bare P) (callee (bare P) c (bare_scope s) (bare_tree e) (type_of P c s e) n.name.0 k)) (count_bare es)
        ∙ ap (callee_type (bare P)) (callee_is s e (type_of P c s e) n.name.0 (count es))
        ∙ callee_type_is (callee P c s e (type_of P c s e) n.name.0 (count es))
    type_is s (PlacedOwnCall n es span) =
        ap (λ k. result_type (bare P) (method_of (bare P) c n.name.0 k)) (count_bare es)
        ∙ ap (result_type (bare P)) (method_of_is P c n.name.0 (count es))
        ∙ result_type_is (method_of P c n.name.0 (count es))
    type_is s (PlacedSuperCall n es span) =
        ap (λ k. result_type (bare P) (super_method (bare P) c n.name.0 k)) (count_bare es)
        ∙ ap (result_type (bare P)) (super_method_is n.name.0 (count es))
        ∙ result_type_is (super_method P c n.name.0 (count es))
    type_is s (PlacedIndex a i span) = ap elem_base (type_is s a)
    type_is s (PlacedNew n es span) = ap (λ k. ref (or_zero k)) (class_named_is n.name.0)
    type_is s (PlacedNewArray annotations base size span) = array_is base annotations
    type_is s (PlacedArrayOf annotations base es span) = array_is base annotations
    type_is s (PlacedPostfix e step span) = type_is s e
    type_is s (PlacedPrefix step e span) = refl
    type_is s (PlacedUnary o e span) = refl
    type_is s (PlacedCast n e span) = ap (λ k. ref (or_zero k)) (class_named_is n.name.0)
    type_is s (PlacedBinary a o b span) = ap (λ x. binary_type (operator_of o) x (type_of (bare P) c (bare_scope s) (bare_tree b))) (type_is s a) ∙ ap (binary_type (operator_of o) (type_of P c s a)) (type_is s b)
    type_is s (PlacedInstanceOf e n span) = refl
    type_is s (PlacedConditional q a b span) = ap (λ x. wider (bare P) x (type_of (bare P) c (bare_scope s) (bare_tree b))) (type_is s a) ∙ ap (wider (bare P) (type_of P c s a)) (type_is s b) ∙ wider_is (type_of P c s a) (type_of P c s b)
    type_is s (PlacedAssign target o e span) =
        ap (λ x. assign_type (bare P) c o x (type_of (bare P) c (bare_scope s) (bare_tree target)) (type_of (bare P) c (bare_scope s) (bare_tree e))) (local_is s target)
        ∙ ap (λ x. assign_type (bare P) c o (is_local P c s target) x (type_of (bare P) c (bare_scope s) (bare_tree e))) (type_is s target)
        ∙ ap (assign_type P c o (is_local P c s target) (type_of P c s target)) (type_is s e)

    register_meant : (m : Meaning) (r : ℕ) → is_register (bare P) c (bare_meaning m) r ≡ is_register P c m r
    register_meant (LocalMeant l) r = refl
    register_meant (FieldMeant f) r = refl
    register_meant (ClassMeant k) r = refl
    register_meant SystemMeant r = refl
    register_meant NothingMeant r = refl

    names_is : (s : Scope) (r : ℕ) (e : PlacedTree) → names_register (bare P) c (bare_scope s) r (bare_tree e) ≡ names_register P c s r e
    names_is s r (PlacedLiteral l span) = refl
    names_is s r (PlacedName n) = ap (λ m. is_register (bare P) c m r) (meaning_is s n.name.0) ∙ register_meant (meaning P c s n.name.0) r
    names_is s r (PlacedThis span) = refl
    names_is s r (PlacedParen e span) = refl
    names_is s r (PlacedField e n span) = refl
    names_is s r (PlacedCall e n es span) = refl
    names_is s r (PlacedOwnCall n es span) = refl
    names_is s r (PlacedSuperCall n es span) = refl
    names_is s r (PlacedIndex a i span) = refl
    names_is s r (PlacedNew n es span) = refl
    names_is s r (PlacedNewArray annotations base size span) = refl
    names_is s r (PlacedArrayOf annotations base es span) = refl
    names_is s r (PlacedPostfix e step span) = refl
    names_is s r (PlacedPrefix step e span) = refl
    names_is s r (PlacedUnary o e span) = refl
    names_is s r (PlacedCast n e span) = refl
    names_is s r (PlacedBinary a o b span) = refl
    names_is s r (PlacedInstanceOf e n span) = refl
    names_is s r (PlacedConditional q a b span) = refl
    names_is s r (PlacedAssign target o e span) = refl

    either : {a b x y : Bool} → a ≡ b → x ≡ y → (a || x) ≡ (b || y)
    either {a} {b} {x} {y} h k = ap (λ z. z || x) h ∙ ap (λ z. b || z) k

    mutual
      pub assigns_is : (s : Scope) (r : ℕ) (e : PlacedTree) → assigns (bare P) c (bare_scope s) r (bare_tree e) ≡ assigns P c s r e
      assigns_is s r (PlacedLiteral l span) = refl
      assigns_is s r (PlacedName n) = refl
      assigns_is s r (PlacedThis span) = refl
      assigns_is s r (PlacedParen e span) = assigns_is s r e
      assigns_is s r (PlacedField e n span) = assigns_is s r e
      assigns_is s r (PlacedCall e n es span) = either (assigns_is s r e) (any_is s r es)
      assigns_is s r (PlacedOwnCall n es span) = any_is s r es
      assigns_is s r (PlacedSuperCall n es span) = any_is s r es
      assigns_is s r (PlacedIndex a i span) = either (assigns_is s r a) (assigns_is s r i)
      assigns_is s r (PlacedNew n es span) = any_is s r es
      assigns_is s r (PlacedNewArray annotations base size span) = assigns_is s r size
      assigns_is s r (PlacedArrayOf annotations base es span) = any_is s r es
      assigns_is s r (PlacedPostfix e step span) = either (names_is s r e) (assigns_is s r e)
      assigns_is s r (PlacedPrefix step e span) = either (names_is s r e) (assigns_is s r e)
      assigns_is s r (PlacedUnary o e span) = assigns_is s r e
      assigns_is s r (PlacedCast n e span) = assigns_is s r e
      assigns_is s r (PlacedBinary a o b span) = either (assigns_is s r a) (assigns_is s r b)
      assigns_is s r (PlacedInstanceOf e n span) = assigns_is s r e
      assigns_is s r (PlacedConditional q a b span) = either (assigns_is s r q) (either (assigns_is s r a) (assigns_is s r b))
      assigns_is s r (PlacedAssign target o e span) = either (names_is s r target) (either (assigns_is s r target) (assigns_is s r e))

      pub any_is : (s : Scope) (r : ℕ) (es : PlacedTrees) → assigns_any (bare P) c (bare_scope s) r (bare_trees es) ≡ assigns_any P c s r es
      any_is s r NoPlacedTrees = refl
      any_is s r (MorePlacedTrees e es) = either (assigns_is s r e) (any_is s r es)

    register_in : (m : Meaning) → local_register (bare P) c (bare_meaning m) ≡ local_register P c m
    register_in (LocalMeant l) = refl
    register_in (FieldMeant f) = refl
    register_in (ClassMeant k) = refl
    register_in SystemMeant = refl
    register_in NothingMeant = refl

    register_is : (s : Scope) (e : PlacedTree) → register_of (bare P) c (bare_scope s) (bare_tree e) ≡ register_of P c s e
    register_is s (PlacedLiteral l span) = refl
    register_is s (PlacedName n) = ap (local_register (bare P) c) (meaning_is s n.name.0) ∙ register_in (meaning P c s n.name.0)
    register_is s (PlacedThis span) = refl
    register_is s (PlacedParen e span) = register_is s e
    register_is s (PlacedField e n span) = refl
    register_is s (PlacedCall e n es span) = refl
    register_is s (PlacedOwnCall n es span) = refl
    register_is s (PlacedSuperCall n es span) = refl
    register_is s (PlacedIndex a i span) = refl
    register_is s (PlacedNew n es span) = refl
    register_is s (PlacedNewArray annotations base size span) = refl
    register_is s (PlacedArrayOf annotations base es span) = refl
    register_is s (PlacedPostfix e step span) = refl
    register_is s (PlacedPrefix step e span) = refl
    register_is s (PlacedUnary o e span) = refl
    register_is s (PlacedCast n e span) = refl
    register_is s (PlacedBinary a o b span) = refl
    register_is s (PlacedInstanceOf e n span) = refl
    register_is s (PlacedConditional q a b span) = refl
    register_is s (PlacedAssign target o e span) = refl

    pub own_origin_is : (b : Bool) (f : ℕ) → own_origin (bare P) c b f ≡ own_origin P c b f
    own_origin_is true f = refl
    own_origin_is false f = refl

    name_origin_is : (m : Meaning) → name_origin (bare P) c (bare_meaning m) ≡ name_origin P c m
    name_origin_is (LocalMeant l) = refl
    name_origin_is (FieldMeant f) = ap (λ b. own_origin (bare P) c b f) (static_is f) ∙ own_origin_is (is_static P f) f
    name_origin_is (ClassMeant k) = refl
    name_origin_is SystemMeant = refl
    name_origin_is NothingMeant = refl

    pub access_origin_is : (r : Option ℕ) (a : Access) → access_origin (bare P) c r a ≡ access_origin P c r a
    access_origin_is None a = refl
    access_origin_is (Some r) (ClassField f) = refl
    access_origin_is (Some r) (ObjectField f) = refl
    access_origin_is (Some r) ArrayLength = refl
    access_origin_is (Some r) NoField = refl

    pub origin_is : (s : Scope) (e : PlacedTree) → origin_of (bare P) c (bare_scope s) (bare_tree e) ≡ origin_of P c s e
    origin_is s (PlacedLiteral l span) = refl
    origin_is s (PlacedName n) = ap (name_origin (bare P) c) (meaning_is s n.name.0) ∙ name_origin_is (meaning P c s n.name.0)
    origin_is s (PlacedThis span) = refl
    origin_is s (PlacedParen e span) = origin_is s e
    origin_is s (PlacedField e n span) =
        ap (λ r. access_origin (bare P) c r (access (bare P) c (bare_scope s) (bare_tree e) (type_of (bare P) c (bare_scope s) (bare_tree e)) n.name.0)) (register_is s e)
        ∙ ap (λ b. access_origin (bare P) c (register_of P c s e) (access (bare P) c (bare_scope s) (bare_tree e) b n.name.0)) (type_is s e)
        ∙ ap (access_origin (bare P) c (register_of P c s e)) (access_is s e (type_of P c s e) n.name.0)
        ∙ access_origin_is (register_of P c s e) (access P c s e (type_of P c s e) n.name.0)
    origin_is s (PlacedCall e n es span) = refl
    origin_is s (PlacedOwnCall n es span) = refl
    origin_is s (PlacedSuperCall n es span) = refl
    origin_is s (PlacedIndex a i span) = refl
    origin_is s (PlacedNew n es span) = refl
    origin_is s (PlacedNewArray annotations base size span) = refl
    origin_is s (PlacedArrayOf annotations base es span) = refl
    origin_is s (PlacedPostfix e step span) = refl
    origin_is s (PlacedPrefix step e span) = refl
    origin_is s (PlacedUnary o e span) = refl
    origin_is s (PlacedCast n e span) = refl
    origin_is s (PlacedBinary a o b span) = refl
    origin_is s (PlacedInstanceOf e n span) = refl
    origin_is s (PlacedConditional q a b span) = refl
    origin_is s (PlacedAssign target o e span) = refl
