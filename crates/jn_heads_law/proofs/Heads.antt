-- What stands where in programs that declare the same but for places.
use Rattle.std.proofs.Common.{◌≡◌, ℕ, zero, suc, not, ◌||◌, Bool, List, [], ◌∷◌, ◌++◌, length, Option, Some, None, refl, sym, ap, ◌∙◌}
use Rattle.std.specs.Prelude.{eqb, map, filter, flat_map, option_map, slice_get}
use Rattle.std.proofs.lemmas.List.{length-map}
use Rattle.std.proofs.lemmas.Option.{slice_get-map}
use Rattle.jn_base.specs.declared.number.ClassNo.{ClassNo}
use Rattle.jn_points.specs.declared.program.Class.{Class}
use Rattle.jn_points.specs.declared.program.Field.{Field}
use Rattle.jn_points.specs.declared.program.Method.{Method}
use Rattle.jn_points.specs.declared.program.Program.{Program}
use Rattle.jn_points.specs.Lookup.{supers_of, parent_of, class_info, field_info, method_at}
use Rattle.jn_points.specs.Members.{some_of, first_at, is_class, reaches, sub, interfaces, walk_parent, walk_by, walk}
use Rattle.jn_places_law.specs.Bare.{Alike, bare_class, bare_field, bare_method}
use Rattle.jn_places_law.proofs.Lookups.{first_at-map, supers_bare, parent_bare}
use Rattle.jn_heads_law.specs.Heads.{HeadsAlike}

-- programs that are alike declare the same but for places
pub alike_heads : (P Q : Program) → Alike P Q → HeadsAlike P Q
alike_heads P Q h = record { classes = ap (λ (R : Program). R.classes) h; fields = ap (λ (R : Program). R.fields) h; methods = ap (λ (R : Program). R.methods) h }

-- ---- lists that are the same but for places

module _ {A : Type 0} (bare : A → A) where
  map_bare : {B : Type 0} (f : A → B) → ((x : A) → f (bare x) ≡ f x) → (xs : List A) → map f (map bare xs) ≡ map f xs
  map_bare f p [] = refl
  map_bare f p (x ∷ xs) = λ i. p x i ∷ map_bare f p xs i

  at_bare : {B : Type 0} (f : Option A → B) → ((x : Option A) → f (option_map bare x) ≡ f x) → (xs : List A) (n : ℕ) → f (slice_get (map bare xs) n) ≡ f (slice_get xs n)
  at_bare f p xs n = ap f (slice_get-map bare xs n) ∙ p (slice_get xs n)

  first_bare : (test : A → Bool) → ((x : A) → test (bare x) ≡ test x) → (xs : List A) → first_at test 0 (map bare xs) ≡ first_at test 0 xs
  first_bare test p xs = first_at-map bare test 0 xs ∙ (λ i. first_at (λ x. p x i) 0 xs)

  module _ (xs ys : List A) (h : map bare xs ≡ map bare ys) where
    -- what doesn't look at places is the same of each item
    pub items_same : {B : Type 0} (f : A → B) → ((x : A) → f (bare x) ≡ f x) → map f xs ≡ map f ys
    items_same f p = sym (map_bare f p xs) ∙ ap (map f) h ∙ map_bare f p ys

    -- and of the item at a place
    pub item_same : {B : Type 0} (f : Option A → B) → ((x : Option A) → f (option_map bare x) ≡ f x) → (n : ℕ) → f (slice_get xs n) ≡ f (slice_get ys n)
    item_same f p n = sym (at_bare f p xs n) ∙ ap (λ zs. f (slice_get zs n)) h ∙ at_bare f p ys n

    -- and so is the first item that passes a test
    pub first_same : (test : A → Bool) → ((x : A) → test (bare x) ≡ test x) → first_at test 0 xs ≡ first_at test 0 ys
    first_same test p = sym (first_bare test p xs) ∙ ap (first_at test 0) h ∙ first_bare test p ys

module _ (P Q : Program) (h : HeadsAlike P Q) where
  pub class_same : {B : Type 0} (f : Option Class → B) → ((x : Option Class) → f (option_map bare_class x) ≡ f x) → (c : ℕ) → f (class_info P c) ≡ f (class_info Q c)
  class_same f p c = item_same bare_class P.classes Q.classes h.classes f p c

  pub field_same : {B : Type 0} (f : Option Field → B) → ((x : Option Field) → f (option_map bare_field x) ≡ f x) → (n : ℕ) → f (field_info P n) ≡ f (field_info Q n)
  field_same f p n = item_same bare_field P.fields Q.fields h.fields f p n

  pub method_same : {B : Type 0} (f : Option Method → B) → ((x : Option Method) → f (option_map bare_method x) ≡ f x) → (m : ℕ) → f (method_at P m) ≡ f (method_at Q m)
  method_same f p m = item_same bare_method P.methods Q.methods h.methods f p m

  -- ---- supertypes and walks

  pub long_same : length P.classes ≡ length Q.classes
  long_same = sym (length-map P.classes bare_class) ∙ ap length h.classes ∙ length-map Q.classes bare_class

  supers_same : (c : ℕ) → supers_of (class_info P c) ≡ supers_of (class_info Q c)
  supers_same c = class_same supers_of supers_bare c

  parent_same : (c : ℕ) → parent_of (class_info P c) ≡ parent_of (class_info Q c)
  parent_same c = class_same parent_of parent_bare c

  pub reaches_same : (steps c d : ℕ) → reaches P steps c d ≡ reaches Q steps c d
  reaches_same zero c d = refl
  reaches_same (suc steps) c d = λ i. eqb c d || some_of (λ (s : ClassNo). reaches_same steps s.0 d i) (supers_same c i)

  pub sub_same : (c d : ℕ) → sub P c d ≡ sub Q c d
  sub_same c d = (λ i. eqb d 0 || reaches P (long_same i) c d) ∙ (λ i. eqb d 0 || reaches_same (length Q.classes) c d i)

  interfaces_same : (c : ℕ) → interfaces P c ≡ interfaces Q c
  interfaces_same c = λ i. filter (λ s. not (is_class (parent_same c i) s)) (supers_same c i)

  parents_same : (f g : ℕ → List ℕ) (p : Option ClassNo) → ((c : ℕ) → f c ≡ g c) → walk_parent P f p ≡ walk_parent Q g p
  parents_same f g None e = refl
  parents_same f g (Some c) e = e c.0

  pub walk_by_same : (steps c : ℕ) → walk_by P steps c ≡ walk_by Q steps c
  walk_by_same zero c = refl
  walk_by_same (suc steps) c = λ i. c ∷ parents_same (walk_by P steps) (walk_by Q steps) (parent_same c i) (walk_by_same steps) i ++ flat_map (λ (s : ClassNo). walk_by_same steps s.0 i) (interfaces_same c i)

  pub walk_same : (c : ℕ) → walk P c ≡ walk Q c
  walk_same c = λ i. walk_by_same (long_same i) c i
