-- Rows of alike programs have the same codes, form by form.
use Rattle.std.proofs.Common.{◌≡◌, ℕ, Bool, true, false, not, cond, ◌&&◌, ◌||◌, List, [], ◌∷◌, ◌++◌, Option, Some, None, refl, sym, ap, ◌∙◌}
use Rattle.std.specs.Prelude.{eqb, map, option_map}
use Rattle.jn_base.specs.declared.code.Code.{Code}
use Rattle.jn_base.specs.declared.code.Code.TheVariants.{J1, J2, J4, J5}
use Rattle.jn_base.specs.declared.place.Row.{Row}
use Rattle.jn_base.specs.declared.place.Span.{Span}
use Rattle.jn_points.specs.declared.point.BaseType.{BaseType}
use Rattle.jn_points.specs.declared.point.BaseType.TheVariants.{Int, Bool as BoolBase, Void, Null, Ref, Array}
use Rattle.jn_points.specs.declared.program.Class.{Class}
use Rattle.jn_points.specs.declared.program.Field.{Field}
use Rattle.jn_points.specs.declared.program.Method.{Method}
use Rattle.jn_points.specs.declared.program.Program.{Program}
use Rattle.jn_points.specs.BaseRows.{is_string}
use Rattle.jn_points.specs.Lookup.{class_info, class_of, field_info, interface_of, is_array, method_at, owner, private_of, static_of}
use Rattle.jn_points.specs.Members.{constructor_of, field_of, method_of}
use Rattle.jn_known.specs.Known.{equals_name, is_object_member, length_name}
use Rattle.jn_trees.specs.declared.expression.Annotation.{Annotation}
use Rattle.jn_trees.specs.declared.expression.Base.{Base}
use Rattle.jn_trees.specs.declared.expression.Base.TheVariants.{Class as ClassUse, Int as IntUse, Boolean as BooleanUse}
use Rattle.jn_lowering.specs.Scopes.{Local, Scope, local_in, Meaning, LocalMeant, FieldMeant, ClassMeant, SystemMeant, NothingMeant, Access, ClassField, ObjectField, ArrayLength, NoField, Callee, Println, OfText, ClassMethod, ObjectMethod, NoMethod, class_named, class_or_system, field_or_class, local_or_field, meaning, text_callee}
use Rattle.jn_lowering.specs.Bases.{is_class_use}
use Rattle.jn_lowering.specs.Calls.{is_static}
use Rattle.jn_lowering.specs.Annotations.{Allowed, annotation_rows, base_rows, doubled, is_allowed, is_initialization, is_of_nullity, known_class, not_allowed, nullity_alone, row, some_named, unless, when}
use Rattle.jn_lowering.specs.ExpressionRows.{Setting, abstract_class, abstract_method, access_rows, array_rows, assigned_access_rows, assigned_name_rows, call_rows, class_field_rows, class_method_rows, ctor_rows, dotted_call_rows, field_private, final_field, final_rows, index_rows, is_text, method_private, name_rows, new_rows, object_field_rows, object_method_rows, own_field_rows, own_method_rows, private_field, reference_method_rows, string_method_rows, super_method_rows, value_field_rows, value_method_rows}
use Rattle.jn_places_law.specs.Bare.{Alike, bare, bare_class, bare_field, bare_method, codes_of}
use Rattle.jn_places_law.specs.Erased.{bare_annotations, bare_base, bare_meaning, coded_local, coded_row, coded_scope}
use Rattle.jn_places_law.proofs.Lookups.{class_bare, class_info_is, field_info_is, interface_is, method_at_is, method_of_is, owner_is, static_bare}
use Rattle.jn_places_law.proofs.Meanings.{class_named_is, class_use_bare, constructor_is, field_of_is, private_is, static_is}

abbrev pub Same : List Row → List Row → Type 0
Same xs ys = codes_of xs ≡ codes_of ys

-- ---- rows put together

pub codes_append : (xs ys : List Row) → codes_of (xs ++ ys) ≡ codes_of xs ++ codes_of ys
codes_append [] ys = refl
codes_append (x ∷ xs) ys = ap (λ r. x.code ∷ r) (codes_append xs ys)

pub both : (xs ys zs ws : List Row) → Same xs zs → Same ys ws → Same (xs ++ ys) (zs ++ ws)
both xs ys zs ws h k = codes_append xs ys ∙ ap (λ r. r ++ codes_of ys) h ∙ ap (λ r. codes_of zs ++ r) k ∙ sym (codes_append zs ws)

pub when_same : (b d : Bool) (xs ys : List Row) → b ≡ d → Same xs ys → Same (when b xs) (when d ys)
when_same b d xs ys h k = each b ∙ ap (λ x. codes_of (when x ys)) h
  where
    each : (x : Bool) → Same (when x xs) (when x ys)
    each true = k
    each false = refl

pub cond_same : (b d : Bool) (xs ys zs ws : List Row) → b ≡ d → Same xs zs → Same ys ws → Same (cond b xs ys) (cond d zs ws)
cond_same b d xs ys zs ws h k g = each b ∙ ap (λ x. codes_of (cond x zs ws)) h
  where
    each : (x : Bool) → Same (cond x xs ys) (cond x zs ws)
    each true = k
    each false = g

pub unless_same : (xs ys zs ws : List Row) → Same xs zs → Same ys ws → Same (unless xs ys) (unless zs ws)
unless_same [] ys [] ws h k = k
unless_same [] ys (z ∷ zs) ws h k = absurd (let f : ◌≡◌ {A = List Code} [] (z.code ∷ codes_of zs) = h in cc)
unless_same (x ∷ xs) ys [] ws h k = absurd (let f : ◌≡◌ {A = List Code} (x.code ∷ codes_of xs) [] = h in cc)
unless_same (x ∷ xs) ys (z ∷ zs) ws h k = refl

pub codes_coded : (xs : List Row) → codes_of (map coded_row xs) ≡ codes_of xs
codes_coded [] = refl
codes_coded (x ∷ xs) = ap (λ r. x.code ∷ r) (codes_coded xs)

-- ---- annotations

named_bare : (kind : ℕ → Bool) (as' : List Annotation) → some_named kind as' ≡ some_named kind (bare_annotations as')
named_bare kind [] = refl
named_bare kind (a ∷ as') = ap (λ b. kind a.name.0 || b) (named_bare kind as')

doubled_bare : (kind : ℕ → Bool) (as' : List Annotation) → Same (doubled kind as') (doubled kind (bare_annotations as'))
doubled_bare kind [] = refl
doubled_bare kind (a ∷ as') = cond_same (kind a.name.0) (kind a.name.0) (when (some_named kind as') (row J5 a.span)) (doubled kind as') _ _ refl (when_same (some_named kind as') (some_named kind (bare_annotations as')) (row J5 a.span) _ (named_bare kind as') refl) (doubled_bare kind as')

allowed_bare : (allowed : Allowed) (reference : Bool) (as' : List Annotation) → Same (not_allowed allowed reference as') (not_allowed allowed reference (bare_annotations as'))
allowed_bare allowed reference [] = refl
allowed_bare allowed reference (a ∷ as') = both (when (not (is_allowed allowed reference a.name.0)) (row J5 a.span)) (not_allowed allowed reference as') _ _ (when_same (not (is_allowed allowed reference a.name.0)) (not (is_allowed allowed reference a.name.0)) (row J5 a.span) _ refl refl) (allowed_bare allowed reference as')

notes_bare : (allowed : Allowed) (reference : Bool) (as' : List Annotation) → Same (annotation_rows allowed reference as') (annotation_rows allowed reference (bare_annotations as'))
notes_bare allowed reference as' = both (not_allowed allowed reference as') (doubled is_of_nullity as' ++ doubled is_initialization as') _ _ (allowed_bare allowed reference as') (both (doubled is_of_nullity as') (doubled is_initialization as') _ _ (doubled_bare is_of_nullity as') (doubled_bare is_initialization as'))

pub notes_same : (allowed : Allowed) (b d : Bool) (as' bs : List Annotation) → b ≡ d → bare_annotations as' ≡ bare_annotations bs → Same (annotation_rows allowed b as') (annotation_rows allowed d bs)
notes_same allowed b d as' bs h k = notes_bare allowed b as' ∙ ap (λ x. codes_of (annotation_rows allowed b x)) k ∙ sym (notes_bare allowed b bs) ∙ ap (λ x. codes_of (annotation_rows allowed x bs)) h

-- ---- items

pub private_field_bare : (f : Option Field) → private_field (option_map bare_field f) ≡ private_field f
private_field_bare None = refl
private_field_bare (Some f) = refl

pub final_field_bare : (f : Option Field) → final_field (option_map bare_field f) ≡ final_field f
final_field_bare None = refl
final_field_bare (Some f) = refl

pub abstract_method_bare : (m : Option Method) → abstract_method (option_map bare_method m) ≡ abstract_method m
abstract_method_bare None = refl
abstract_method_bare (Some m) = refl

pub abstract_class_bare : (c : Option Class) → abstract_class (option_map bare_class c) ≡ abstract_class c
abstract_class_bare None = refl
abstract_class_bare (Some c) = refl

-- ---- what two alike programs share

pub across : (P Q : Program) → Alike P Q → {A : Type 0} (f : Program → A) → ((R : Program) → f (bare R) ≡ f R) → f P ≡ f Q
across P Q h f is = sym (is P) ∙ ap f h ∙ is Q

module _ (P Q : Program) (h : Alike P Q) where
  private_field_same : (f : ℕ) → private_field (field_info P f) ≡ private_field (field_info Q f)
  private_field_same f = across P Q h (λ R. private_field (field_info R f)) (λ R. ap private_field (field_info_is R f) ∙ private_field_bare (field_info R f))

  final_field_same : (f : ℕ) → final_field (field_info P f) ≡ final_field (field_info Q f)
  final_field_same f = across P Q h (λ R. final_field (field_info R f)) (λ R. ap final_field (field_info_is R f) ∙ final_field_bare (field_info R f))

  owner_same : (f : ℕ) → owner P f ≡ owner Q f
  owner_same f = across P Q h (λ R. owner R f) (λ R. owner_is R f)

  pub static_same : (f : ℕ) → is_static P f ≡ is_static Q f
  static_same f = across P Q h (λ R. is_static R f) (λ R. static_is R f)

  private_method_same : (m : ℕ) → private_of (method_at P m) ≡ private_of (method_at Q m)
  private_method_same m = across P Q h (λ R. private_of (method_at R m)) (λ R. private_is R m)

  class_same : (m : ℕ) → class_of (method_at P m) ≡ class_of (method_at Q m)
  class_same m = across P Q h (λ R. class_of (method_at R m)) (λ R. ap class_of (method_at_is R m) ∙ class_bare (method_at R m))

  pub static_method_same : (m : ℕ) → static_of (method_at P m) ≡ static_of (method_at Q m)
  static_method_same m = across P Q h (λ R. static_of (method_at R m)) (λ R. ap static_of (method_at_is R m) ∙ static_bare (method_at R m))

  abstract_method_same : (m : ℕ) → abstract_method (method_at P m) ≡ abstract_method (method_at Q m)
  abstract_method_same m = across P Q h (λ R. abstract_method (method_at R m)) (λ R. ap abstract_method (method_at_is R m) ∙ abstract_method_bare (method_at R m))

  abstract_class_same : (k : ℕ) → abstract_class (class_info P k) ≡ abstract_class (class_info Q k)
  abstract_class_same k = across P Q h (λ R. abstract_class (class_info R k)) (λ R. ap abstract_class (class_info_is R k) ∙ abstract_class_bare (class_info R k))

  interface_same : (k : ℕ) → interface_of (class_info P k) ≡ interface_of (class_info Q k)
  interface_same k = across P Q h (λ R. interface_of (class_info R k)) (λ R. interface_is R k)

  pub field_of_same : (k n : ℕ) → field_of P k n ≡ field_of Q k n
  field_of_same k n = across P Q h (λ R. field_of R k n) (λ R. field_of_is R k n)

  pub method_of_same : (k n arity : ℕ) → method_of P k n arity ≡ method_of Q k n arity
  method_of_same k n arity = across P Q h (λ R. method_of R k n arity) (λ R. method_of_is R k n arity)

  pub constructor_same : (k arity : ℕ) → constructor_of P k arity ≡ constructor_of Q k arity
  constructor_same k arity = across P Q h (λ R. constructor_of R k arity) (λ R. constructor_is R k arity)

  pub class_named_same : (n : ℕ) → class_named P n ≡ class_named Q n
  class_named_same n = across P Q h (λ R. class_named R n) (λ R. class_named_is R n)

  -- ---- rows by what is named

  pub known_same : (o : Option ℕ) (span at : Span) → Same (known_class P o span) (known_class Q o at)
  known_same None span at = refl
  known_same (Some k) span at = refl

  base_bare : (b : Base) → Same (base_rows P b) (base_rows Q (bare_base b))
  base_bare (ClassUse n) = ap (λ o. codes_of (known_class P o n.span)) (class_named_same n.name.0) ∙ known_same (class_named Q n.name.0) n.span _
  base_bare (IntUse s) = refl
  base_bare (BooleanUse s) = refl

  field_private_same : (c f : ℕ) (span at : Span) → Same (field_private P c f span) (field_private Q c f at)
  field_private_same c f span at = when_same (private_field (field_info P f) && not (eqb (owner P f) c)) _ (row _ span) (row _ at) (ap (λ b. b && not (eqb (owner P f) c)) (private_field_same f) ∙ ap (λ o. private_field (field_info Q f) && not (eqb o c)) (owner_same f)) refl

  method_private_same : (c m : ℕ) (span at : Span) → Same (method_private P c m span) (method_private Q c m at)
  method_private_same c m span at = when_same (private_of (method_at P m) && not (eqb (class_of (method_at P m)) c)) _ (row _ span) (row _ at) (ap (λ b. b && not (eqb (class_of (method_at P m)) c)) (private_method_same m) ∙ ap (λ o. private_of (method_at Q m) && not (eqb o c)) (class_same m)) refl

  class_field_by : (c : ℕ) (o : Option ℕ) (span at : Span) → Same (class_field_rows P c o span) (class_field_rows Q c o at)
  class_field_by c None span at = refl
  class_field_by c (Some f) span at = both (field_private P c f span) (when (not (is_static P f)) (row J2 span)) (field_private Q c f at) (when (not (is_static Q f)) (row J2 at)) (field_private_same c f span at) (when_same (not (is_static P f)) (not (is_static Q f)) (row J2 span) (row J2 at) (ap not (static_same f)) refl)

  class_field_same : (c k n : ℕ) (span at : Span) → Same (class_field_rows P c (field_of P k n) span) (class_field_rows Q c (field_of Q k n) at)
  class_field_same c k n span at = ap (λ o. codes_of (class_field_rows P c o span)) (field_of_same k n) ∙ class_field_by c (field_of Q k n) span at

  object_field_by : (c : ℕ) (o : Option ℕ) (span at : Span) → Same (object_field_rows P c o span) (object_field_rows Q c o at)
  object_field_by c None span at = refl
  object_field_by c (Some f) span at = both (field_private P c f span) (when (is_static P f) (row J2 span)) (field_private Q c f at) (when (is_static Q f) (row J2 at)) (field_private_same c f span at) (when_same (is_static P f) (is_static Q f) (row J2 span) (row J2 at) (static_same f) refl)

  value_field_same : (c : ℕ) (b : BaseType) (n : ℕ) (span at : Span) → Same (value_field_rows P c b n span) (value_field_rows Q c b n at)
  value_field_same c (Ref k) n span at =
      cond_same (eqb k.0 1) (eqb k.0 1) (row J5 span) (object_field_rows P c (field_of P k.0 n) span) (row J5 at) (object_field_rows Q c (field_of Q k.0 n) at) refl refl
      (ap (λ o. codes_of (object_field_rows P c o span)) (field_of_same k.0 n) ∙ object_field_by c (field_of Q k.0 n) span at)
  value_field_same c (Array e nullable) n span at = when_same (not (eqb n length_name)) (not (eqb n length_name)) (row J2 span) (row J2 at) refl refl
  value_field_same c Int n span at = refl
  value_field_same c BoolBase n span at = refl
  value_field_same c Void n span at = refl
  value_field_same c Null n span at = refl

  access_bare : (c : ℕ) (m : Meaning) (b : BaseType) (xs ys : List Row) (n : ℕ) (span at : Span) → Same xs ys → Same (access_rows P c m b xs n span) (access_rows Q c (bare_meaning m) b ys n at)
  access_bare c (ClassMeant k) b xs ys n span at h = cond_same (eqb k 1) (eqb k 1) (row J5 span) (class_field_rows P c (field_of P k n) span) (row J5 at) (class_field_rows Q c (field_of Q k n) at) refl refl (class_field_same c k n span at)
  access_bare c SystemMeant b xs ys n span at h = refl
  access_bare c (LocalMeant l) b xs ys n span at h = both xs (unless xs (value_field_rows P c b n span)) ys (unless ys (value_field_rows Q c b n at)) h (unless_same xs (value_field_rows P c b n span) ys (value_field_rows Q c b n at) h (value_field_same c b n span at))
  access_bare c (FieldMeant f) b xs ys n span at h = both xs (unless xs (value_field_rows P c b n span)) ys (unless ys (value_field_rows Q c b n at)) h (unless_same xs (value_field_rows P c b n span) ys (value_field_rows Q c b n at) h (value_field_same c b n span at))
  access_bare c NothingMeant b xs ys n span at h = both xs (unless xs (value_field_rows P c b n span)) ys (unless ys (value_field_rows Q c b n at)) h (unless_same xs (value_field_rows P c b n span) ys (value_field_rows Q c b n at) h (value_field_same c b n span at))

  class_method_by : (c : ℕ) (o : Option ℕ) (span at : Span) → Same (class_method_rows P c o span) (class_method_rows Q c o at)
  class_method_by c None span at = refl
  class_method_by c (Some m) span at = both (method_private P c m span) (when (not (static_of (method_at P m))) (row J2 span)) (method_private Q c m at) (when (not (static_of (method_at Q m))) (row J2 at)) (method_private_same c m span at) (when_same (not (static_of (method_at P m))) (not (static_of (method_at Q m))) (row J2 span) (row J2 at) (ap not (static_method_same m)) refl)

  object_method_by : (c : ℕ) (o : Option ℕ) (span at : Span) → Same (object_method_rows P c o span) (object_method_rows Q c o at)
  object_method_by c None span at = refl
  object_method_by c (Some m) span at = both (method_private P c m span) (when (static_of (method_at P m)) (row J2 span)) (method_private Q c m at) (when (static_of (method_at Q m)) (row J2 at)) (method_private_same c m span at) (when_same (static_of (method_at P m)) (static_of (method_at Q m)) (row J2 span) (row J2 at) (static_method_same m) refl)

  reference_method_same : (c : ℕ) (b : BaseType) (n arity : ℕ) (span at : Span) → Same (reference_method_rows P c b n arity span) (reference_method_rows Q c b n arity at)
  reference_method_same c (Ref k) n arity span at = ap (λ o. codes_of (object_method_rows P c o span)) (method_of_same k.0 n arity) ∙ object_method_by c (method_of Q k.0 n arity) span at
  reference_method_same c (Array e nullable) n arity span at = refl
  reference_method_same c Int n arity span at = refl
  reference_method_same c BoolBase n arity span at = refl
  reference_method_same c Void n arity span at = refl
  reference_method_same c Null n arity span at = refl

  value_method_same : (c : ℕ) (b : BaseType) (n arity : ℕ) (span at : Span) → Same (value_method_rows P c b n arity span) (value_method_rows Q c b n arity at)
  value_method_same c b n arity span at =
      cond_same (is_string b) (is_string b)
      (when (not (is_text (text_callee n arity))) (row J5 span)) (cond (eqb n equals_name) (row J5 span) (reference_method_rows P c b n arity span))
      (when (not (is_text (text_callee n arity))) (row J5 at)) (cond (eqb n equals_name) (row J5 at) (reference_method_rows Q c b n arity at)) refl
      (when_same (not (is_text (text_callee n arity))) (not (is_text (text_callee n arity))) (row J5 span) (row J5 at) refl refl)
      (cond_same (eqb n equals_name) (eqb n equals_name) (row J5 span) (reference_method_rows P c b n arity span) (row J5 at) (reference_method_rows Q c b n arity at) refl refl (reference_method_same c b n arity span at))

  string_method_same : (n arity : ℕ) (span at : Span) → Same (string_method_rows P n arity span) (string_method_rows Q n arity at)
  string_method_same n arity span at = cond_same (is_text (text_callee n arity)) (is_text (text_callee n arity)) (row J2 span) (row J5 span) (row J2 at) (row J5 at) refl refl refl

  -- a call on a value
  abbrev on_value : Program → ℕ → BaseType → List Row → List Row → ℕ → ℕ → Span → List Row
  on_value R c b rows args n arity span = rows ++ (args ++ cond (is_object_member n && not (eqb n equals_name)) (row J5 span) (unless rows (value_method_rows R c b n arity span)))

  value_call_same : (c : ℕ) (b : BaseType) (xs ys args others : List Row) (n arity : ℕ) (span at : Span) → Same xs ys → Same args others → Same (on_value P c b xs args n arity span) (on_value Q c b ys others n arity at)
  value_call_same c b xs ys args others n arity span at h k =
      let t : Bool = is_object_member n && not (eqb n equals_name) in
      let x : List Row = unless xs (value_method_rows P c b n arity span) in
      let y : List Row = unless ys (value_method_rows Q c b n arity at) in
      both xs (args ++ cond t (row J5 span) x) ys (others ++ cond t (row J5 at) y) h
      (both args (cond t (row J5 span) x) others (cond t (row J5 at) y) k
      (cond_same t t (row J5 span) x (row J5 at) y refl refl (unless_same xs (value_method_rows P c b n arity span) ys (value_method_rows Q c b n arity at) h (value_method_same c b n arity span at))))

  call_bare : (c : ℕ) (m : Meaning) (b : BaseType) (xs ys args others : List Row) (n arity : ℕ) (span at : Span) → Same xs ys → Same args others → Same (call_rows P c m b xs args n arity span) (call_rows Q c (bare_meaning m) b ys others n arity at)
  call_bare c (ClassMeant k) b xs ys args others n arity span at h g =
      let x : List Row = cond (is_object_member n) (row J5 span) (class_method_rows P c (method_of P k n arity) span) in
      let y : List Row = cond (is_object_member n) (row J5 at) (class_method_rows Q c (method_of Q k n arity) at) in
      both args (cond (eqb k 1) (string_method_rows P n arity span) x) others (cond (eqb k 1) (string_method_rows Q n arity at) y) g
      (cond_same (eqb k 1) (eqb k 1) (string_method_rows P n arity span) x (string_method_rows Q n arity at) y refl (string_method_same n arity span at)
      (cond_same (is_object_member n) (is_object_member n) (row J5 span) (class_method_rows P c (method_of P k n arity) span) (row J5 at) (class_method_rows Q c (method_of Q k n arity) at) refl refl
      (ap (λ o. codes_of (class_method_rows P c o span)) (method_of_same k n arity) ∙ class_method_by c (method_of Q k n arity) span at)))
  call_bare c SystemMeant b xs ys args others n arity span at h g = both args (row J5 span) others (row J5 at) g refl
  call_bare c (LocalMeant l) b xs ys args others n arity span at h g = value_call_same c b xs ys args others n arity span at h g
  call_bare c (FieldMeant f) b xs ys args others n arity span at h g = value_call_same c b xs ys args others n arity span at h g
  call_bare c NothingMeant b xs ys args others n arity span at h g = value_call_same c b xs ys args others n arity span at h g

  dotted_bare : (c : ℕ) (k : Callee) (m : Meaning) (b : BaseType) (xs ys args others : List Row) (n arity : ℕ) (span at : Span) → Same xs ys → Same args others → Same (dotted_call_rows P c k m b xs args n arity span) (dotted_call_rows Q c k (bare_meaning m) b ys others n arity at)
  dotted_bare c Println m b xs ys args others n arity span at h g = g
  dotted_bare c (OfText op) m b xs ys args others n arity span at h g = call_bare c m b xs ys args others n arity span at h g
  dotted_bare c (ClassMethod x) m b xs ys args others n arity span at h g = call_bare c m b xs ys args others n arity span at h g
  dotted_bare c (ObjectMethod x) m b xs ys args others n arity span at h g = call_bare c m b xs ys args others n arity span at h g
  dotted_bare c NoMethod m b xs ys args others n arity span at h g = call_bare c m b xs ys args others n arity span at h g

  own_method_by : (s : Setting) (o : Option ℕ) (span at : Span) → Same (own_method_rows P s o span) (own_method_rows Q s o at)
  own_method_by s None span at = refl
  own_method_by s (Some m) span at = when_same (not (static_of (method_at P m)) && not s.this_stands) (not (static_of (method_at Q m)) && not s.this_stands) (row J1 span) (row J1 at) (ap (λ b. not b && not s.this_stands) (static_method_same m)) refl

  pub own_method_same : (s : Setting) (c n arity arity' : ℕ) (span at : Span) → arity ≡ arity' → Same (own_method_rows P s (method_of P c n arity) span) (own_method_rows Q s (method_of Q c n arity') at)
  own_method_same s c n arity arity' span at e = ap (λ o. codes_of (own_method_rows P s o span)) (method_of_same c n arity ∙ ap (method_of Q c n) e) ∙ own_method_by s (method_of Q c n arity') span at

  pub super_method_by : (c : ℕ) (o : Option ℕ) (span at : Span) → Same (super_method_rows P c o span) (super_method_rows Q c o at)
  super_method_by c None span at = refl
  super_method_by c (Some m) span at =
      both (method_private P c m span) (when (abstract_method (method_at P m) || static_of (method_at P m)) (row J2 span)) (method_private Q c m at) (when (abstract_method (method_at Q m) || static_of (method_at Q m)) (row J2 at)) (method_private_same c m span at)
      (when_same (abstract_method (method_at P m) || static_of (method_at P m)) (abstract_method (method_at Q m) || static_of (method_at Q m)) (row J2 span) (row J2 at) (ap (λ b. b || static_of (method_at P m)) (abstract_method_same m) ∙ ap (λ b. abstract_method (method_at Q m) || b) (static_method_same m)) refl)

  ctor_by : (c : ℕ) (o : Option ℕ) (span at : Span) → Same (ctor_rows P c o span) (ctor_rows Q c o at)
  ctor_by c None span at = refl
  ctor_by c (Some m) span at = method_private_same c m span at

  pub ctor_same : (c j k arity arity' : ℕ) (span at : Span) → j ≡ k → arity ≡ arity' → Same (ctor_rows P c (constructor_of P j arity) span) (ctor_rows Q c (constructor_of Q k arity') at)
  ctor_same c j k arity arity' span at e g = ap (λ o. codes_of (ctor_rows P c o span)) (constructor_same j arity ∙ ap (λ x. constructor_of Q x arity) e ∙ ap (constructor_of Q k) g) ∙ ctor_by c (constructor_of Q k arity') span at

  new_by : (c : ℕ) (o : Option ℕ) (arity arity' : ℕ) (span at : Span) → arity ≡ arity' → Same (new_rows P c o arity span) (new_rows Q c o arity' at)
  new_by c None arity arity' span at e = refl
  new_by c (Some k) arity arity' span at e =
      both (when (interface_of (class_info P k) || abstract_class (class_info P k)) (row J2 span)) (ctor_rows P c (constructor_of P k arity) span) (when (interface_of (class_info Q k) || abstract_class (class_info Q k)) (row J2 at)) (ctor_rows Q c (constructor_of Q k arity') at)
      (when_same (interface_of (class_info P k) || abstract_class (class_info P k)) (interface_of (class_info Q k) || abstract_class (class_info Q k)) (row J2 span) (row J2 at) (ap (λ b. b || abstract_class (class_info P k)) (interface_same k) ∙ ap (λ b. interface_of (class_info Q k) || b) (abstract_class_same k)) refl)
      (ctor_same c k k arity arity' span at refl e)

  pub new_same : (c n arity arity' : ℕ) (span at : Span) → arity ≡ arity' → Same (new_rows P c (class_named P n) arity span) (new_rows Q c (class_named Q n) arity' at)
  new_same c n arity arity' span at e = ap (λ o. codes_of (new_rows P c o arity span)) (class_named_same n) ∙ new_by c (class_named Q n) arity arity' span at e

  -- ---- rows of names and of what is assigned

  own_field_same : (c : ℕ) (s : Setting) (f : ℕ) (span at : Span) → Same (own_field_rows P c s f span) (own_field_rows Q c s f at)
  own_field_same c s f span at = when_same (not (is_static P f) && not s.this_stands) (not (is_static Q f) && not s.this_stands) (row J1 span) (row J1 at) (ap (λ b. not b && not s.this_stands) (static_same f)) refl

  final_same : (c : ℕ) (s : Setting) (f : ℕ) (b d : Bool) (span at : Span) → b ≡ d → Same (final_rows P c s f b span) (final_rows Q c s f d at)
  final_same c s f b d span at e =
      when_same (final_field (field_info P f) && not (not (is_static P f) && (s.own_fields && (eqb (owner P f) c && b)))) (final_field (field_info Q f) && not (not (is_static Q f) && (s.own_fields && (eqb (owner Q f) c && d)))) (row J4 span) (row J4 at)
      (ap (λ x. x && not (not (is_static P f) && (s.own_fields && (eqb (owner P f) c && b)))) (final_field_same f)
      ∙ ap (λ x. final_field (field_info Q f) && not (not x && (s.own_fields && (eqb (owner P f) c && b)))) (static_same f)
      ∙ ap (λ x. final_field (field_info Q f) && not (not (is_static Q f) && (s.own_fields && (eqb x c && b)))) (owner_same f)
      ∙ ap (λ x. final_field (field_info Q f) && not (not (is_static Q f) && (s.own_fields && (eqb (owner Q f) c && x)))) e) refl

  module _ (c : ℕ) (s : Setting) where
    named_by : (o : Option ℕ) (n : ℕ) (span at : Span) → Same (name_rows P c s (class_or_system P o n) span) (name_rows Q c s (class_or_system Q o n) at)
    named_by (Some k) n span at = refl
    named_by None n span at = cases (eqb n _)
      where
        cases : (b : Bool) → Same (name_rows P c s (cond b SystemMeant NothingMeant) span) (name_rows Q c s (cond b SystemMeant NothingMeant) at)
        cases true = refl
        cases false = refl

    field_named : (o : Option ℕ) (n : ℕ) (span at : Span) → Same (name_rows P c s (field_or_class P o n) span) (name_rows Q c s (field_or_class Q o n) at)
    field_named (Some f) n span at = own_field_same c s f span at
    field_named None n span at = ap (λ o. codes_of (name_rows P c s (class_or_system P o n) span)) (class_named_same n) ∙ named_by (class_named Q n) n span at

    local_named : (o : Option Local) (n : ℕ) (span at : Span) → Same (name_rows P c s (local_or_field P c o n) span) (name_rows Q c s (local_or_field Q c (option_map coded_local o) n) at)
    local_named (Some l) n span at = sym (codes_coded l.faults)
    local_named None n span at = ap (λ o. codes_of (name_rows P c s (field_or_class P o n) span)) (field_of_same c n) ∙ field_named (field_of Q c n) n span at

    assigned_by : (o : Option ℕ) (n : ℕ) (span at : Span) → Same (assigned_name_rows P c s (class_or_system P o n) span) (assigned_name_rows Q c s (class_or_system Q o n) at)
    assigned_by (Some k) n span at = refl
    assigned_by None n span at = cases (eqb n _)
      where
        cases : (b : Bool) → Same (assigned_name_rows P c s (cond b SystemMeant NothingMeant) span) (assigned_name_rows Q c s (cond b SystemMeant NothingMeant) at)
        cases true = refl
        cases false = refl

    field_assigned : (o : Option ℕ) (n : ℕ) (span at : Span) → Same (assigned_name_rows P c s (field_or_class P o n) span) (assigned_name_rows Q c s (field_or_class Q o n) at)
    field_assigned (Some f) n span at =
        both (own_field_rows P c s f span) (unless (own_field_rows P c s f span) (final_rows P c s f true span)) (own_field_rows Q c s f at) (unless (own_field_rows Q c s f at) (final_rows Q c s f true at)) (own_field_same c s f span at)
        (unless_same (own_field_rows P c s f span) (final_rows P c s f true span) (own_field_rows Q c s f at) (final_rows Q c s f true at) (own_field_same c s f span at) (final_same c s f true true span at refl))
    field_assigned None n span at = ap (λ o. codes_of (assigned_name_rows P c s (class_or_system P o n) span)) (class_named_same n) ∙ assigned_by (class_named Q n) n span at

    local_assigned : (o : Option Local) (n : ℕ) (span at : Span) → Same (assigned_name_rows P c s (local_or_field P c o n) span) (assigned_name_rows Q c s (local_or_field Q c (option_map coded_local o) n) at)
    local_assigned (Some l) n span at = both (when l.fixed (row J4 span)) l.faults (when l.fixed (row J4 at)) (map coded_row l.faults) (when_same l.fixed l.fixed (row J4 span) (row J4 at) refl refl) (sym (codes_coded l.faults))
    local_assigned None n span at = ap (λ o. codes_of (assigned_name_rows P c s (field_or_class P o n) span)) (field_of_same c n) ∙ field_assigned (field_of Q c n) n span at

    pub assigned_access_same : (a : Access) (b d : Bool) (span at : Span) → b ≡ d → Same (assigned_access_rows P c s a b span) (assigned_access_rows Q c s a d at)
    assigned_access_same (ClassField f) b d span at e = final_same c s f false false span at refl
    assigned_access_same (ObjectField f) b d span at e = final_same c s f b d span at e
    assigned_access_same ArrayLength b d span at e = refl
    assigned_access_same NoField b d span at e = refl

    pub index_same : (a b : BaseType) (xs ys more others : List Row) (span at : Span) → a ≡ b → Same xs ys → Same more others → Same (index_rows P c s a xs more span) (index_rows Q c s b ys others at)
    index_same a b xs ys more others span at e h k =
        both xs (more ++ unless xs (when (not (is_array a)) (row J2 span))) ys (others ++ unless ys (when (not (is_array b)) (row J2 at))) h
        (both more (unless xs (when (not (is_array a)) (row J2 span))) others (unless ys (when (not (is_array b)) (row J2 at))) k
        (unless_same xs (when (not (is_array a)) (row J2 span)) ys (when (not (is_array b)) (row J2 at)) h (when_same (not (is_array a)) (not (is_array b)) (row J2 span) (row J2 at) (ap (λ x. not (is_array x)) e) refl)))

-- ---- over both sides

pub local_coded : (s : Scope) (n : ℕ) → local_in (coded_scope s) n ≡ option_map coded_local (local_in s n)
local_coded [] n = refl
local_coded (l ∷ ls) n = cases (eqb l.name n) (local_in (coded_scope ls) n) (local_in ls n) (local_coded ls n)
  where
    cases : (b : Bool) (x y : Option Local) → x ≡ option_map coded_local y → cond b (Some (coded_local l)) x ≡ option_map coded_local (cond b (Some l) y)
    cases true x y h = refl
    cases false x y h = h

pub locals_same : (s r : Scope) (n : ℕ) → coded_scope s ≡ coded_scope r → option_map coded_local (local_in s n) ≡ option_map coded_local (local_in r n)
locals_same s r n k = sym (local_coded s n) ∙ ap (λ x. local_in x n) k ∙ local_coded r n

module _ (P Q : Program) (h : Alike P Q) (c : ℕ) where
  pub base_rows_same : (b d : Base) → bare_base b ≡ bare_base d → Same (base_rows P b) (base_rows Q d)
  base_rows_same b d e = base_bare P Q h b ∙ ap (λ x. codes_of (base_rows Q x)) e ∙ sym (base_bare Q Q refl d)

  pub array_rows_same : (b d : Base) (as' bs : List Annotation) → bare_base b ≡ bare_base d → bare_annotations as' ≡ bare_annotations bs → Same (array_rows P b as') (array_rows Q d bs)
  array_rows_same b d as' bs e k =
      both (annotation_rows nullity_alone (is_class_use b) as') (base_rows P b) (annotation_rows nullity_alone (is_class_use d) bs) (base_rows Q d)
      (notes_same nullity_alone (is_class_use b) (is_class_use d) as' bs (sym (class_use_bare b) ∙ ap is_class_use e ∙ class_use_bare d) k)
      (base_rows_same b d e)

  pub access_same : (m m' : Meaning) (b b' : BaseType) (xs ys : List Row) (n : ℕ) (span at : Span) → bare_meaning m ≡ bare_meaning m' → b ≡ b' → Same xs ys → Same (access_rows P c m b xs n span) (access_rows Q c m' b' ys n at)
  access_same m m' b b' xs ys n span at e g k =
      access_bare P Q h c m b xs ys n span at k
      ∙ ap (λ x. codes_of (access_rows Q c x b ys n at)) e
      ∙ ap (λ x. codes_of (access_rows Q c (bare_meaning m') x ys n at)) g
      ∙ sym (access_bare Q Q refl c m' b' ys ys n at at refl)

  pub dotted_same : (k k' : Callee) (m m' : Meaning) (b b' : BaseType) (xs ys args others : List Row) (n arity arity' : ℕ) (span at : Span) → k ≡ k' → bare_meaning m ≡ bare_meaning m' → b ≡ b' → arity ≡ arity' → Same xs ys → Same args others → Same (dotted_call_rows P c k m b xs args n arity span) (dotted_call_rows Q c k' m' b' ys others n arity' at)
  dotted_same k k' m m' b b' xs ys args others n arity arity' span at j e g i l o =
      dotted_bare P Q h c k m b xs ys args others n arity span at l o
      ∙ ap (λ x. codes_of (dotted_call_rows Q c x (bare_meaning m) b ys others n arity at)) j
      ∙ ap (λ x. codes_of (dotted_call_rows Q c k' x b ys others n arity at)) e
      ∙ ap (λ x. codes_of (dotted_call_rows Q c k' (bare_meaning m') x ys others n arity at)) g
      ∙ ap (λ x. codes_of (dotted_call_rows Q c k' (bare_meaning m') b' ys others n x at)) i
      ∙ sym (dotted_bare Q Q refl c k' m' b' ys ys others others n arity' at at refl refl)

  module _ (s : Setting) where
    pub name_same : (a b : Scope) (n : ℕ) (span at : Span) → coded_scope a ≡ coded_scope b → Same (name_rows P c s (meaning P c a n) span) (name_rows Q c s (meaning Q c b n) at)
    name_same a b n span at k =
        local_named P Q h c s (local_in a n) n span at
        ∙ ap (λ o. codes_of (name_rows Q c s (local_or_field Q c o n) at)) (locals_same a b n k)
        ∙ sym (local_named Q Q refl c s (local_in b n) n at at)

    pub assigned_name_same : (a b : Scope) (n : ℕ) (span at : Span) → coded_scope a ≡ coded_scope b → Same (assigned_name_rows P c s (meaning P c a n) span) (assigned_name_rows Q c s (meaning Q c b n) at)
    assigned_name_same a b n span at k =
        local_assigned P Q h c s (local_in a n) n span at
        ∙ ap (λ o. codes_of (assigned_name_rows Q c s (local_or_field Q c o n) at)) (locals_same a b n k)
        ∙ sym (local_assigned Q Q refl c s (local_in b n) n at at)
