-- Rows of class tables have the same codes where heads differ in places and in what is written alone.
use Rattle.std.proofs.Common.{◌≡◌, ℕ, zero, suc, Bool, true, false, cond, not, ◌&&◌, ◌||◌, List, [], ◌∷◌, ◌++◌, length, Option, Some, None, refl, sym, ap, ◌∙◌}
use Rattle.std.specs.Prelude.{eqb, ltb, map, option_map, take}
use Rattle.std.proofs.Math.Path.{fun_ext}
use Rattle.std.proofs.lemmas.List.{map-append}
use Rattle.jn_base.specs.declared.code.Code.{Code}
use Rattle.jn_base.specs.declared.code.Code.TheVariants.{T1, T3, T4, T5, T6, T7, T9}
use Rattle.jn_base.specs.declared.number.ClassNo.{ClassNo}
use Rattle.jn_base.specs.declared.place.Row.{Row}
use Rattle.jn_base.specs.declared.place.Span.{Span}
use Rattle.jn_known.specs.Known.{system_name}
use Rattle.jn_points.specs.declared.program.Class.{Class}
use Rattle.jn_points.specs.declared.program.Field.{Field}
use Rattle.jn_points.specs.declared.program.Method.{Method}
use Rattle.jn_points.specs.declared.program.Program.{Program}
use Rattle.jn_points.specs.Lookup.{class_info}
use Rattle.jn_points.specs.Members.{some_of, is_named, is_number, reaches, sub, type_within, is_pair, method_of}
use Rattle.jn_declaration_rules.specs.Rows.{rows_at, some_at, earlier, same_field, same_method, same_bases, is_bad_abstract, final_of, is_circle, agrees, overrides_badly, over_static, hides_well, hides_badly, is_bad_override, lacks_body, is_hiding, final_parent, no_rows}
use Rattle.jn_classtable.specs.Rows.{same_class_name}
use Rattle.jn_places_law.specs.Bare.{bare, bare_class, bare_field, bare_method, codes_of}
use Rattle.jn_places_law.proofs.Lookups.{class_info_is, reaches_is, classes_long, sub_is, method_of_is, is_pair_is}

-- ---- lists

pub one_row : (b d : Bool) (r q : Row) (xs ys : List Row) → b ≡ d → r.code ≡ q.code → codes_of xs ≡ codes_of ys → codes_of (cond b (r ∷ []) [] ++ xs) ≡ codes_of (cond d (q ∷ []) [] ++ ys)
one_row true true r q xs ys e h k = ap (λ c. c ∷ codes_of xs) h ∙ ap (λ z. q.code ∷ z) k
one_row false false r q xs ys e h k = k
one_row true false r q xs ys e h k = cc
one_row false true r q xs ys e h k = cc

pub rows_bare : {A B : Type 0} (f : A → B) (code : Code) (p : A → Span) (q : B → Span) (test : ℕ → A → Bool) (other : ℕ → B → Bool) (i : ℕ) (xs : List A) → ((i : ℕ) (x : A) → test i x ≡ other i (f x)) → codes_of (rows_at code p test i xs) ≡ codes_of (rows_at code q other i (map f xs))
rows_bare f code p q test other i [] h = refl
rows_bare f code p q test other i (x ∷ xs) h = one_row (test i x) (other i (f x)) (record { span = p x; code = code }) (record { span = q (f x); code = code }) (rows_at code p test (suc i) xs) (rows_at code q other (suc i) (map f xs)) (h i x) refl (rows_bare f code p q test other (suc i) xs h)

some_at_bare : {A B : Type 0} (f : A → B) (test : ℕ → A → Bool) (other : ℕ → B → Bool) (i : ℕ) (xs : List A) → ((i : ℕ) (x : A) → test i x ≡ other i (f x)) → some_at test i xs ≡ some_at other i (map f xs)
some_at_bare f test other i [] h = refl
some_at_bare f test other i (x ∷ xs) h = ap (λ b. b || some_at test (suc i) xs) (h i x) ∙ ap (λ b. other i (f x) || b) (some_at_bare f test other (suc i) xs h)

some_bare : {A B : Type 0} (f : A → B) (test : A → Bool) (other : B → Bool) (xs : List A) → ((x : A) → test x ≡ other (f x)) → some_of test xs ≡ some_of other (map f xs)
some_bare f test other [] h = refl
some_bare f test other (x ∷ xs) h = ap (λ b. b || some_of test xs) (h x) ∙ ap (λ b. other (f x) || b) (some_bare f test other xs h)

take_map : {A B : Type 0} (f : A → B) (i : ℕ) (xs : List A) → map f (take i xs) ≡ take i (map f xs)
take_map f zero [] = refl
take_map f zero (x ∷ xs) = refl
take_map f (suc i) [] = refl
take_map f (suc i) (x ∷ xs) = ap (λ z. f x ∷ z) (take_map f i xs)

pub earlier_bare : {A B : Type 0} (f : A → B) (like : A → A → Bool) (other : B → B → Bool) (xs : List A) (i : ℕ) (x : A) → ((x y : A) → like x y ≡ other (f x) (f y)) → earlier like xs i x ≡ earlier other (map f xs) i (f x)
earlier_bare f like other xs i x h = some_bare f (like x) (other (f x)) (take i xs) (h x) ∙ ap (some_of (other (f x))) (take_map f i xs)

pub no_rows_same : (xs ys : List Row) → codes_of xs ≡ codes_of ys → no_rows xs ≡ no_rows ys
no_rows_same [] [] e = refl
no_rows_same (x ∷ xs) (y ∷ ys) e = refl
no_rows_same [] (y ∷ ys) e = cc
no_rows_same (x ∷ xs) [] e = cc

pub codes_append : (a b c d : List Row) → codes_of a ≡ codes_of c → codes_of b ≡ codes_of d → codes_of (a ++ b) ≡ codes_of (c ++ d)
codes_append a b c d h k = map-append (λ (r : Row). r.code) a b ∙ ap (λ z. z ++ codes_of b) h ∙ ap (λ z. codes_of c ++ z) k ∙ sym (map-append (λ (r : Row). r.code) c d)

final_bare : (c : Option Class) → final_of (option_map bare_class c) ≡ final_of c
final_bare None = refl
final_bare (Some c) = refl

-- ---- the rows that read the table alone, of a program

abbrev pub table_rows : Program → List Row
table_rows R = rows_at T1 (λ (x : Class). x.span) (λ c x. ltb 1 c && (eqb x.name.0 system_name || earlier same_class_name R.classes c x)) 0 R.classes

abbrev pub field_rows : Program → List Row
field_rows R = rows_at T1 (λ (x : Field). x.span) (earlier same_field R.fields) 0 R.fields

abbrev pub circle_rows : Program → List Row
circle_rows R = rows_at T3 (λ (x : Class). x.span) (is_circle R) 0 R.classes

abbrev pub method_rows : Program → List Row
method_rows R = rows_at T4 (λ (x : Method). x.span) (earlier same_method R.methods) 0 R.methods

abbrev pub override_rows : Program → List Row
override_rows R = rows_at T5 (λ (x : Method). x.span) (is_bad_override R) 0 R.methods

abbrev pub lacking_rows : Program → List Row
lacking_rows R = rows_at T6 (λ (x : Class). x.span) (lacks_body R) 0 R.classes

abbrev pub abstract_rows : Program → List Row
abstract_rows R = rows_at T6 (λ (x : Method). x.span) (λ m x. is_bad_abstract x) 0 R.methods

abbrev pub hiding_rows : Program → List Row
hiding_rows R = rows_at T7 (λ (x : Field). x.span) (λ f x. is_hiding R x) 0 R.fields

abbrev pub final_rows : Program → List Row
final_rows R = rows_at T9 (λ (x : Class). x.span) (λ c x. final_parent R x.parent) 0 R.classes

module _ (P : Program) where
  pub table_bare : codes_of (table_rows P) ≡ codes_of (table_rows (bare P))
  table_bare = rows_bare bare_class T1 (λ (x : Class). x.span) (λ (x : Class). x.span) (λ c x. ltb 1 c && (eqb x.name.0 system_name || earlier same_class_name P.classes c x)) (λ c x. ltb 1 c && (eqb x.name.0 system_name || earlier same_class_name (bare P).classes c x)) 0 P.classes (λ i x. ap (λ b. ltb 1 i && (eqb x.name.0 system_name || b)) (earlier_bare bare_class same_class_name same_class_name P.classes i x (λ a b. refl)))

  pub field_bare : codes_of (field_rows P) ≡ codes_of (field_rows (bare P))
  field_bare = rows_bare bare_field T1 (λ (x : Field). x.span) (λ (x : Field). x.span) (earlier same_field P.fields) (earlier same_field (bare P).fields) 0 P.fields (λ i x. earlier_bare bare_field same_field same_field P.fields i x (λ a b. refl))

  pub circle_bare : codes_of (circle_rows P) ≡ codes_of (circle_rows (bare P))
  circle_bare = rows_bare bare_class T3 (λ (x : Class). x.span) (λ (x : Class). x.span) (is_circle P) (is_circle (bare P)) 0 P.classes (λ i x. sym (
      ap (λ n. some_of (λ (s : ClassNo). reaches (bare P) n s.0 i) x.supers) (classes_long P)
      ∙ ap (λ (t : ClassNo → Bool). some_of t x.supers) (fun_ext (λ (s : ClassNo). reaches_is P (length P.classes) s.0 i))))

  pub method_bare : codes_of (method_rows P) ≡ codes_of (method_rows (bare P))
  method_bare = rows_bare bare_method T4 (λ (x : Method). x.span) (λ (x : Method). x.span) (earlier same_method P.methods) (earlier same_method (bare P).methods) 0 P.methods (λ i x. earlier_bare bare_method same_method same_method P.methods i x (λ a b. refl))

  fits_is : sub (bare P) ≡ sub P
  fits_is = fun_ext (λ c. fun_ext (sub_is P c))

  agrees_is : (x y : Method) → agrees P x y ≡ agrees (bare P) (bare_method x) (bare_method y)
  agrees_is x y = ap (λ (r : ℕ → ℕ → Bool). same_bases x.params y.params && type_within r x.result y.result && not y.is_final && not (x.is_static || y.is_static)) (sym fits_is)

  hides_is : (x y : Method) → hides_well P x y ≡ hides_well (bare P) (bare_method x) (bare_method y)
  hides_is x y = ap (λ (r : ℕ → ℕ → Bool). x.is_static && same_bases x.params y.params && type_within r x.result y.result && not y.is_final) (sym fits_is)

  over_is : (x y : Method) → over_static P x y ≡ over_static (bare P) (bare_method x) (bare_method y)
  over_is x y = ap (λ b. not x.ctor && is_named y x.name.0 (length x.params) && y.is_static && not y.is_private && not (eqb x.owner.0 y.owner.0) && b) (sym (sub_is P x.owner.0 y.owner.0))

  override_is : (m : ℕ) (x : Method) → is_bad_override P m x ≡ is_bad_override (bare P) m (bare_method x)
  override_is m x =
      ap (λ b. b || hides_badly P x) (some_at_bare bare_method (λ k y. is_pair P m k && not (agrees P x y)) (λ k y. is_pair (bare P) m k && not (agrees (bare P) (bare_method x) y)) 0 P.methods (λ k y. ap (λ b. b && not (agrees P x y)) (sym (is_pair_is P m k)) ∙ ap (λ b. is_pair (bare P) m k && not b) (agrees_is x y)))
      ∙ ap (λ b. overrides_badly (bare P) m (bare_method x) || b) (some_bare bare_method (λ y. over_static P x y && not (hides_well P x y)) (λ y. over_static (bare P) (bare_method x) y && not (hides_well (bare P) (bare_method x) y)) P.methods (λ y. ap (λ b. b && not (hides_well P x y)) (over_is x y) ∙ ap (λ b. over_static (bare P) (bare_method x) (bare_method y) && not b) (hides_is x y)))

  pub override_bare : codes_of (override_rows P) ≡ codes_of (override_rows (bare P))
  override_bare = rows_bare bare_method T5 (λ (x : Method). x.span) (λ (x : Method). x.span) (is_bad_override P) (is_bad_override (bare P)) 0 P.methods override_is

  pub lacking_bare : codes_of (lacking_rows P) ≡ codes_of (lacking_rows (bare P))
  lacking_bare = rows_bare bare_class T6 (λ (x : Class). x.span) (λ (x : Class). x.span) (lacks_body P) (lacks_body (bare P)) 0 P.classes (λ c x.
      ap (λ b. not x.interface && not x.is_abstract && b) (some_at_bare bare_method (λ m y. y.is_abstract && is_number (method_of P c y.name.0 (length y.params)) m) (λ m y. y.is_abstract && is_number (method_of (bare P) c y.name.0 (length y.params)) m) 0 P.methods (λ m y. ap (λ k. y.is_abstract && is_number k m) (sym (method_of_is P c y.name.0 (length y.params))))))

  pub abstract_bare : codes_of (abstract_rows P) ≡ codes_of (abstract_rows (bare P))
  abstract_bare = rows_bare bare_method T6 (λ (x : Method). x.span) (λ (x : Method). x.span) (λ m x. is_bad_abstract x) (λ m x. is_bad_abstract x) 0 P.methods (λ m x. refl)

  pub hiding_bare : codes_of (hiding_rows P) ≡ codes_of (hiding_rows (bare P))
  hiding_bare = rows_bare bare_field T7 (λ (x : Field). x.span) (λ (x : Field). x.span) (λ f x. is_hiding P x) (λ f x. is_hiding (bare P) x) 0 P.fields (λ f x.
      some_bare bare_field (λ y. eqb x.name.0 y.name.0 && not (eqb x.owner.0 y.owner.0) && sub P x.owner.0 y.owner.0) (λ y. eqb x.name.0 y.name.0 && not (eqb x.owner.0 y.owner.0) && sub (bare P) x.owner.0 y.owner.0) P.fields (λ y. ap (λ b. eqb x.name.0 y.name.0 && not (eqb x.owner.0 y.owner.0) && b) (sym (sub_is P x.owner.0 y.owner.0))))

  parent_final : (p : Option ClassNo) → final_parent P p ≡ final_parent (bare P) p
  parent_final None = refl
  parent_final (Some p) = sym (ap final_of (class_info_is P p.0) ∙ final_bare (class_info P p.0))

  pub final_rows_bare : codes_of (final_rows P) ≡ codes_of (final_rows (bare P))
  final_rows_bare = rows_bare bare_class T9 (λ (x : Class). x.span) (λ (x : Class). x.span) (λ c x. final_parent P x.parent) (λ c x. final_parent (bare P) x.parent) 0 P.classes (λ c x. parent_final x.parent)
