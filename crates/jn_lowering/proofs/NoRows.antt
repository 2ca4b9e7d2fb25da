-- What look-ups give where no row stands.
use Rattle.std.proofs.Common.{◌≡◌, ◌<◌, ℕ, suc, zero, Bool, true, false, cond, not, ◌&&◌, ◌||◌, ◌⊎◌, inl, inr, List, [], ◌∷◌, ◌++◌, length, Option, Some, None, refl, sym, ap, ◌∙◌, subst, eqb}
use Rattle.std.proofs.lemmas.Option.{slice_get_within}
use Rattle.jn_base.specs.declared.code.Code.TheVariants.{J1, J2, J5}
use Rattle.jn_base.specs.declared.place.Row.{Row}
use Rattle.jn_base.specs.declared.place.Span.{Span}
use Rattle.jn_points.specs.declared.point.BaseType.{BaseType}
use Rattle.jn_points.specs.declared.point.BaseType.TheVariants.{Int, Bool as BoolBase, Void, Null, Ref, Array}
use Rattle.jn_points.specs.declared.point.StrOperation.{StrOperation}
use Rattle.jn_points.specs.declared.point.StrOperation.TheVariants.{Length, IsEmpty, Equals}
use Rattle.jn_points.specs.declared.program.Class.{Class}
use Rattle.jn_points.specs.declared.program.Program.{Program}
use Rattle.jn_points.specs.Lookup.{class_info, interface_of, method_at, static_of}
use Rattle.jn_points.specs.Members.{constructor_of, field_of, method_of}
use Rattle.jn_points.specs.Regular.{IsConcrete}
use Rattle.jn_known.specs.Known.{equals_name, is_empty_name, is_object_member, length_name}
use Rattle.jn_lowering.specs.Scopes.{Meaning, LocalMeant, FieldMeant, ClassMeant, SystemMeant, NothingMeant, Access, ClassField, ObjectField, ArrayLength, NoField, Callee, Println, OfText, ClassMethod, ObjectMethod, NoMethod, access_by, access_of, callee_by, callee_of, class_access, class_callee, class_named, object_access, object_callee, or_zero, text_callee}
use Rattle.jn_lowering.specs.Calls.{is_static}
use Rattle.jn_lowering.specs.Annotations.{row, unless, when}
use Rattle.jn_lowering.specs.ExpressionRows.{Setting, abstract_class, abstract_method, access_rows, call_rows, class_field_rows, class_method_rows, ctor_rows, dotted_call_rows, field_private, is_text, method_private, new_rows, object_field_rows, object_method_rows, own_method_rows, string_method_rows, super_method_rows, value_field_rows, value_method_rows}
use Rattle.jn_lowering.proofs.Found.{IsMethod, class_found, field_found, method_found}

pub append_none : {A : Type 0} (xs ys : List A) → xs ++ ys ≡ [] → (xs ≡ []) × (ys ≡ [])
append_none [] ys h = (refl, h)
append_none (x ∷ xs) ys h = cc

pub when_none : (b : Bool) (r : Row) (rs : List Row) → when b (r ∷ rs) ≡ [] → b ≡ false
when_none true r rs h = cc
when_none false r rs h = refl

pub unless_none : (xs ys : List Row) → unless xs ys ≡ [] → xs ≡ [] → ys ≡ []
unless_none [] ys h e = h
unless_none (x ∷ xs) ys h e = cc

pub not_false : (b : Bool) → not b ≡ false → b ≡ true
not_false true h = refl
not_false false h = cc

pub or_none : (a b : Bool) → (a || b) ≡ false → (a ≡ false) × (b ≡ false)
or_none true b h = cc
or_none false b h = (refl, h)

-- a condition with a row on the one side
pub other_side : (b : Bool) (r : Row) (rs ys : List Row) → cond b (r ∷ rs) ys ≡ [] → (b ≡ false) × (ys ≡ [])
other_side true r rs ys h = cc
other_side false r rs ys h = (refl, h)

abbrev at : Span → Row
at span = record { span = span; code = J2 }

abbrev one_row : Row → List Row
one_row r = r ∷ []

-- `equals` of a String has an argument
abbrev pub TextArity : StrOperation → ℕ → Type 0
TextArity Equals zero = ⊥
TextArity op arity = Unit {0}

module _ (P : Program) (c : ℕ) where
  abbrev pub FieldGood : ℕ → Bool → Type 0
  FieldGood f static = (f < length P.fields) × (is_static P f ≡ static)

  -- what an access without a row names; `rows` are those of the object
  abbrev pub AccessGood : List Row → Access → Type 0
  AccessGood rows (ClassField f) = FieldGood f true
  AccessGood rows (ObjectField f) = (rows ≡ []) × FieldGood f false
  AccessGood rows ArrayLength = rows ≡ []
  AccessGood rows NoField = ⊥

  there : (k n f : ℕ) → field_of P k n ≡ Some f → f < length P.fields
  there k n f e = let r = field_found P k n f e in slice_get_within P.fields f r.0 r.1

  class_field_good : (k n : ℕ) (span : Span) (rows : List Row) → class_field_rows P c (field_of P k n) span ≡ [] → AccessGood rows (class_access (field_of P k n))
  class_field_good k n span rows h = by (field_of P k n) refl h
    where
      by : (o : Option ℕ) → field_of P k n ≡ o → class_field_rows P c o span ≡ [] → AccessGood rows (class_access o)
      by None e h = cc
      by (Some f) e h = (there k n f e, not_false (is_static P f) (when_none (not (is_static P f)) (at span) [] (append_none (field_private P c f span) (when (not (is_static P f)) (row J2 span)) h).1))

  object_field_good : (k n : ℕ) (span : Span) (rows : List Row) → rows ≡ [] → object_field_rows P c (field_of P k n) span ≡ [] → AccessGood rows (object_access (field_of P k n))
  object_field_good k n span rows none h = by (field_of P k n) refl h
    where
      by : (o : Option ℕ) → field_of P k n ≡ o → object_field_rows P c o span ≡ [] → AccessGood rows (object_access o)
      by None e h = cc
      by (Some f) e h = (none, (there k n f e, when_none (is_static P f) (at span) [] (append_none (field_private P c f span) (when (is_static P f) (row J2 span)) h).1))

  value_field_good : (base : BaseType) (n : ℕ) (span : Span) (rows : List Row) → rows ≡ [] → value_field_rows P c base n span ≡ [] → AccessGood rows (access_of P base n)
  value_field_good (Ref k) n span rows none h = object_field_good k.0 n span rows none (other_side (eqb k.0 1) (record { span = span; code = J5 }) [] (object_field_rows P c (field_of P k.0 n) span) h).1
  value_field_good (Array e nullable) n span rows none h = by (eqb n length_name) h
    where
      by : (b : Bool) → when (not b) (row J2 span) ≡ [] → AccessGood rows (cond b ArrayLength NoField)
      by true h = none
      by false h = cc
  value_field_good Int n span rows none h = cc
  value_field_good BoolBase n span rows none h = cc
  value_field_good Void n span rows none h = cc
  value_field_good Null n span rows none h = cc

  pub access_good : (m : Meaning) (base : BaseType) (rows : List Row) (n : ℕ) (span : Span) → access_rows P c m base rows n span ≡ [] → AccessGood rows (access_by P m base n)
  access_good (ClassMeant k) base rows n span h = class_field_good k n span rows (other_side (eqb k 1) (record { span = span; code = J5 }) [] (class_field_rows P c (field_of P k n) span) h).1
  access_good SystemMeant base rows n span h = cc
  access_good (LocalMeant l) base rows n span h =
      let p = append_none rows (unless rows (value_field_rows P c base n span)) h in
      value_field_good base n span rows p.0 (unless_none rows (value_field_rows P c base n span) p.1 p.0)
  access_good (FieldMeant f) base rows n span h =
      let p = append_none rows (unless rows (value_field_rows P c base n span)) h in
      value_field_good base n span rows p.0 (unless_none rows (value_field_rows P c base n span) p.1 p.0)
  access_good NothingMeant base rows n span h =
      let p = append_none rows (unless rows (value_field_rows P c base n span)) h in
      value_field_good base n span rows p.0 (unless_none rows (value_field_rows P c base n span) p.1 p.0)

  -- calls

  abbrev pub MethodGood : ℕ → ℕ → Bool → Type 0
  MethodGood m arity static = IsMethod P m arity false × (static_of (method_at P m) ≡ static)

  abbrev pub CalleeGood : List Row → List Row → ℕ → Callee → Type 0
  CalleeGood rows args arity Println = args ≡ []
  CalleeGood rows args arity (OfText op) = (rows ≡ []) × (args ≡ []) × TextArity op arity
  CalleeGood rows args arity (ClassMethod m) = (args ≡ []) × MethodGood m arity true
  CalleeGood rows args arity (ObjectMethod m) = (rows ≡ []) × ((args ≡ []) × MethodGood m arity false)
  CalleeGood rows args arity NoMethod = ⊥

  class_method_good : (k n arity : ℕ) (span : Span) (rows args : List Row) → args ≡ [] → class_method_rows P c (method_of P k n arity) span ≡ [] → CalleeGood rows args arity (class_callee (method_of P k n arity))
  class_method_good k n arity span rows args none h = by (method_of P k n arity) refl h
    where
      by : (o : Option ℕ) → method_of P k n arity ≡ o → class_method_rows P c o span ≡ [] → CalleeGood rows args arity (class_callee o)
      by None e h = cc
      by (Some m) e h = (none, (method_found P k n arity m e, not_false (static_of (method_at P m)) (when_none (not (static_of (method_at P m))) (at span) [] (append_none (method_private P c m span) (when (not (static_of (method_at P m))) (row J2 span)) h).1)))

  object_method_good : (k n arity : ℕ) (span : Span) (rows args : List Row) → rows ≡ [] → args ≡ [] → object_method_rows P c (method_of P k n arity) span ≡ [] → CalleeGood rows args arity (object_callee (method_of P k n arity))
  object_method_good k n arity span rows args none none' h = by (method_of P k n arity) refl h
    where
      by : (o : Option ℕ) → method_of P k n arity ≡ o → object_method_rows P c o span ≡ [] → CalleeGood rows args arity (object_callee o)
      by None e h = cc
      by (Some m) e h = (none, (none', (method_found P k n arity m e, when_none (static_of (method_at P m)) (at span) [] (append_none (method_private P c m span) (when (static_of (method_at P m)) (row J2 span)) h).1)))

  -- the operation that a name and a number of arguments mean has that many
  abbrev ArityFits : Callee → ℕ → Type 0
  ArityFits (OfText op) arity = TextArity op arity
  ArityFits k arity = Unit {0}

  arity_fits : (n arity : ℕ) → ArityFits (text_callee n arity) arity
  arity_fits n zero = by (eqb n length_name) (eqb n is_empty_name)
    where
      by : (a b : Bool) → ArityFits (cond a (OfText Length) (cond b (OfText IsEmpty) NoMethod)) zero
      by true b = tt
      by false true = tt
      by false false = tt
  arity_fits n (suc zero) = by (eqb n equals_name)
    where
      by : (a : Bool) → ArityFits (cond a (OfText Equals) NoMethod) (suc zero)
      by true = tt
      by false = tt
  arity_fits n (suc (suc more)) = tt

  text_good : (k : Callee) (span : Span) (rows args : List Row) (arity : ℕ) → ArityFits k arity → rows ≡ [] → args ≡ [] → when (not (is_text k)) (row J5 span) ≡ [] → CalleeGood rows args arity k
  text_good (OfText op) span rows args arity fits none none' h = (none, none', fits)
  text_good Println span rows args arity fits none none' h = cc
  text_good (ClassMethod m) span rows args arity fits none none' h = cc
  text_good (ObjectMethod m) span rows args arity fits none none' h = cc
  text_good NoMethod span rows args arity fits none none' h = cc

  value_method_good : (base : BaseType) (n arity : ℕ) (span : Span) (rows args : List Row) → rows ≡ [] → args ≡ [] → value_method_rows P c base n arity span ≡ [] → CalleeGood rows args arity (callee_of P base n arity)
  value_method_good (Ref k) n arity span rows args none none' h = by (eqb k.0 1) h
    where
      by : (b : Bool) → cond b (when (not (is_text (text_callee n arity))) (row J5 span)) (cond (eqb n equals_name) (row J5 span) (object_method_rows P c (method_of P k.0 n arity) span)) ≡ [] → CalleeGood rows args arity (cond b (text_callee n arity) (object_callee (method_of P k.0 n arity)))
      by true h = text_good (text_callee n arity) span rows args arity (arity_fits n arity) none none' h
      by false h = object_method_good k.0 n arity span rows args none none' (other_side (eqb n equals_name) (record { span = span; code = J5 }) [] (object_method_rows P c (method_of P k.0 n arity) span) h).1
  value_method_good Int n arity span rows args none none' h = absurd (no_method (eqb n equals_name) span h)
    where
      no_method : (b : Bool) (span : Span) → cond b (row J5 span) (row J2 span) ≡ [] → ⊥
      no_method true span h = cc
      no_method false span h = cc
  value_method_good BoolBase n arity span rows args none none' h = absurd (no_method (eqb n equals_name) span h)
    where
      no_method : (b : Bool) (span : Span) → cond b (row J5 span) (row J2 span) ≡ [] → ⊥
      no_method true span h = cc
      no_method false span h = cc
  value_method_good Void n arity span rows args none none' h = absurd (no_method (eqb n equals_name) span h)
    where
      no_method : (b : Bool) (span : Span) → cond b (row J5 span) (row J2 span) ≡ [] → ⊥
      no_method true span h = cc
      no_method false span h = cc
  value_method_good Null n arity span rows args none none' h = absurd (no_method (eqb n equals_name) span h)
    where
      no_method : (b : Bool) (span : Span) → cond b (row J5 span) (row J2 span) ≡ [] → ⊥
      no_method true span h = cc
      no_method false span h = cc
  value_method_good (Array e nullable) n arity span rows args none none' h = absurd (no_method (eqb n equals_name) span h)
    where
      no_method : (b : Bool) (span : Span) → cond b (row J5 span) (row J2 span) ≡ [] → ⊥
      no_method true span h = cc
      no_method false span h = cc

  value_call_good : (base : BaseType) (n arity : ℕ) (span : Span) (rows args : List Row) → rows ++ (args ++ cond (is_object_member n && not (eqb n equals_name)) (row J5 span) (unless rows (value_method_rows P c base n arity span))) ≡ [] → CalleeGood rows args arity (callee_of P base n arity)
  value_call_good base n arity span rows args h =
      let own : List Row = unless rows (value_method_rows P c base n arity span) in
      let p = append_none rows (args ++ cond (is_object_member n && not (eqb n equals_name)) (row J5 span) own) h in
      let q = append_none args (cond (is_object_member n && not (eqb n equals_name)) (row J5 span) own) p.1 in
      value_method_good base n arity span rows args p.0 q.0 (unless_none rows (value_method_rows P c base n arity span) (other_side (is_object_member n && not (eqb n equals_name)) (record { span = span; code = J5 }) [] own q.1).1 p.0)

  no_string_method : (k : Callee) (span : Span) → cond (is_text k) (row J2 span) (row J5 span) ≡ [] → ⊥
  no_string_method (OfText op) span h = cc
  no_string_method Println span h = cc
  no_string_method (ClassMethod m) span h = cc
  no_string_method (ObjectMethod m) span h = cc
  no_string_method NoMethod span h = cc

  call_good : (m : Meaning) (base : BaseType) (rows args : List Row) (n arity : ℕ) (span : Span) → call_rows P c m base rows args n arity span ≡ [] → CalleeGood rows args arity (callee_by P m base n arity)
  call_good (ClassMeant k) base rows args n arity span h = by (eqb k 1) (append_none args (cond (eqb k 1) (string_method_rows P n arity span) member) h).1
    where
      member : List Row
      member = cond (is_object_member n) (row J5 span) (class_method_rows P c (method_of P k n arity) span)

      none : args ≡ []
      none = (append_none args (cond (eqb k 1) (string_method_rows P n arity span) member) h).0

      by : (b : Bool) → cond b (string_method_rows P n arity span) member ≡ [] → CalleeGood rows args arity (class_callee (method_of P k n arity))
      by true h = absurd (no_string_method (text_callee n arity) span h)
      by false h = class_method_good k n arity span rows args none (other_side (is_object_member n) (record { span = span; code = J5 }) [] (class_method_rows P c (method_of P k n arity) span) h).1
  call_good SystemMeant base rows args n arity span h = let z : row J5 span ≡ [] = (append_none args (row J5 span) h).1 in cc
  call_good (LocalMeant l) base rows args n arity span h = value_call_good base n arity span rows args h
  call_good (FieldMeant f) base rows args n arity span h = value_call_good base n arity span rows args h
  call_good NothingMeant base rows args n arity span h = value_call_good base n arity span rows args h

  pub dotted_good : (k : Callee) (m : Meaning) (base : BaseType) (rows args : List Row) (n arity : ℕ) (span : Span) → dotted_call_rows P c k m base rows args n arity span ≡ [] → (k ≡ Println) ⊎ (k ≡ callee_by P m base n arity) → CalleeGood rows args arity k
  dotted_good Println m base rows args n arity span h (inl e) = h
  dotted_good Println m base rows args n arity span h (inr e) = h
  dotted_good (OfText op) m base rows args n arity span h (inl e) = cc
  dotted_good (OfText op) m base rows args n arity span h (inr e) = subst (λ k. CalleeGood rows args arity k) (sym e) (call_good m base rows args n arity span h)
  dotted_good (ClassMethod x) m base rows args n arity span h (inl e) = cc
  dotted_good (ClassMethod x) m base rows args n arity span h (inr e) = subst (λ k. CalleeGood rows args arity k) (sym e) (call_good m base rows args n arity span h)
  dotted_good (ObjectMethod x) m base rows args n arity span h (inl e) = cc
  dotted_good (ObjectMethod x) m base rows args n arity span h (inr e) = subst (λ k. CalleeGood rows args arity k) (sym e) (call_good m base rows args n arity span h)
  dotted_good NoMethod m base rows args n arity span h (inl e) = cc
  dotted_good NoMethod m base rows args n arity span h (inr e) = subst (λ k. CalleeGood rows args arity k) (sym e) (call_good m base rows args n arity span h)

  -- own, inherited and superclasses' methods by their name alone

  pub own_good : (at : Setting) (o : Option ℕ) (k n arity : ℕ) (span : Span) → method_of P k n arity ≡ o → own_method_rows P at o span ≡ [] → (m : ℕ) × (o ≡ Some m) × IsMethod P m arity false × ((static_of (method_at P m) ≡ true) ⊎ ((static_of (method_at P m) ≡ false) × (at.this_stands ≡ true)))
  own_good at None k n arity span e h = cc
  own_good at (Some m) k n arity span e h = (m, refl, method_found P k n arity m e, by (static_of (method_at P m)) at.this_stands refl refl h)
    where
      by : (s t : Bool) → static_of (method_at P m) ≡ s → at.this_stands ≡ t → when (not s && not t) (row J1 span) ≡ [] → (static_of (method_at P m) ≡ true) ⊎ ((static_of (method_at P m) ≡ false) × (at.this_stands ≡ true))
      by true t e f h = inl e
      by false true e f h = inr (e, f)
      by false false e f h = cc

  pub super_good : (o : Option ℕ) (k n arity : ℕ) (span : Span) → method_of P k n arity ≡ o → super_method_rows P c o span ≡ [] → (m : ℕ) × (o ≡ Some m) × IsMethod P m arity false × (abstract_method (method_at P m) ≡ false) × (static_of (method_at P m) ≡ false)
  super_good None k n arity span e h = cc
  super_good (Some m) k n arity span e h =
      let p = or_none (abstract_method (method_at P m)) (static_of (method_at P m)) (when_none (abstract_method (method_at P m) || static_of (method_at P m)) (at span) [] (append_none (method_private P c m span) (when (abstract_method (method_at P m) || static_of (method_at P m)) (row J2 span)) h).1) in
      (m, refl, method_found P k n arity m e, p.0, p.1)

  ctor_good : (k arity : ℕ) (span : Span) → ctor_rows P c (constructor_of P k arity) span ≡ [] → (m : ℕ) × (constructor_of P k arity ≡ Some m)
  ctor_good k arity span h = by (constructor_of P k arity) h
    where
      by : (o : Option ℕ) → ctor_rows P c o span ≡ [] → (m : ℕ) × (o ≡ Some m)
      by None h = cc
      by (Some m) h = (m, refl)

  -- a class of which a `new` makes objects, and its constructor
  pub record Created (n arity : ℕ) : Type 0 where
    pub ctor : ℕ
    pub found : constructor_of P (or_zero (class_named P n)) arity ≡ Some ctor
    pub concrete : IsConcrete P (or_zero (class_named P n))

  pub new_good : (n arity : ℕ) (span : Span) → new_rows P c (class_named P n) arity span ≡ [] → Created n arity
  new_good n arity span h = by (class_named P n) refl h
    where
      made : (k : ℕ) → class_named P n ≡ Some k → (x : Class) → class_info P k ≡ Some x → (interface_of (class_info P k) || abstract_class (class_info P k)) ≡ false → (m : ℕ) × (constructor_of P k arity ≡ Some m) → Created n arity
      made k e x i h m =
          let p = or_none (interface_of (class_info P k)) (abstract_class (class_info P k)) h in
          record {
            ctor = m.0;
            found = ap (λ o. constructor_of P (or_zero o) arity) e ∙ m.1;
            concrete = subst (λ o. IsConcrete P (or_zero o)) (sym e) (x, i, sym (ap interface_of i) ∙ p.0, sym (ap abstract_class i) ∙ p.1);
          }

      by : (o : Option ℕ) → class_named P n ≡ o → new_rows P c o arity span ≡ [] → Created n arity
      by None e h = cc
      by (Some k) e h =
          let p = append_none (when (interface_of (class_info P k) || abstract_class (class_info P k)) (row J2 span)) (ctor_rows P c (constructor_of P k arity) span) h in
          let r = class_found P n k e in
          made k e r.0 r.1 (when_none (interface_of (class_info P k) || abstract_class (class_info P k)) (at span) [] p.0) (ctor_good k arity span p.1)
