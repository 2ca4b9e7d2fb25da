-- An index of a program is one of each that declares the same but for places.
use Rattle.std.proofs.Common.{◌≡◌, ℕ, ◌<◌, ◌^◌, not, ◌&&◌, ◌||◌, Bool, true, List, length, filter, Option, Some, None, refl, sym, ◌∙◌, subst}
use Rattle.std.specs.Prelude.{eqb, option_map}
use Rattle.jn_points.specs.declared.program.Field.{Field}
use Rattle.jn_points.specs.declared.program.Method.{Method}
use Rattle.jn_points.specs.declared.program.Program.{Program}
use Rattle.jn_points.specs.Lookup.{method_at}
use Rattle.jn_points.specs.Members.{first_some, is_named, some_of, walk}
use Rattle.jn_member_tables.specs.Along.{IsWalk}
use Rattle.jn_index.specs.Busy.{has_other, is_busy, is_busy_method, is_other}
use Rattle.jn_index.specs.Entries.{field_key, is_field_named, is_named_at, method_key, open_field, open_method}
use Rattle.jn_index.specs.Founds.{AreClasses, AreFields, AreMethods}
use Rattle.jn_index.specs.Index.{IsIndex, Lists, class_names, field_names, field_owners, is_constructor, names, owners}
use Rattle.jn_member_tables.specs.Numbers.{contains, first_in, list_at, passes, places_of}
use Rattle.jn_member_tables.specs.Tables.{Trees}
use Rattle.jn_places_law.specs.Bare.{bare_class, bare_field, bare_method}
use Rattle.jn_heads_law.specs.Heads.{HeadsAlike}
use Rattle.jn_heads_law.proofs.Heads.{field_same, first_same, items_same, long_same, method_same, reaches_same, walk_by_same, walk_same}

-- a test that doesn't look at places passes the same items
passes_bare : {A : Type 0} (bare : A → A) (test : A → Bool) → ((x : A) → test (bare x) ≡ test x) → (o : Option A) → passes test (option_map bare o) ≡ passes test o
passes_bare bare test p None = refl
passes_bare bare test p (Some x) = p x

module _ (P Q : Program) (h : HeadsAlike P Q) where
  -- ---- tests of methods

  passes_same : (test : Method → Bool) → ((m : Method) → test (bare_method m) ≡ test m) → (k : ℕ) → passes test (method_at P k) ≡ passes test (method_at Q k)
  passes_same test p k = method_same P Q h (passes test) (passes_bare bare_method test p) k

  -- ---- lists

  owners_same : owners P.methods ≡ owners Q.methods
  owners_same = items_same bare_method P.methods Q.methods h.methods (λ m. m.owner.0) (λ m. refl)

  names_same : names P.methods ≡ names Q.methods
  names_same = items_same bare_method P.methods Q.methods h.methods (λ m. m.name.0) (λ m. refl)

  field_owners_same : field_owners P.fields ≡ field_owners Q.fields
  field_owners_same = items_same bare_field P.fields Q.fields h.fields (λ f. f.owner.0) (λ f. refl)

  field_names_same : field_names P.fields ≡ field_names Q.fields
  field_names_same = items_same bare_field P.fields Q.fields h.fields (λ f. f.name.0) (λ f. refl)

  class_names_same : class_names P.classes ≡ class_names Q.classes
  class_names_same = items_same bare_class P.classes Q.classes h.classes (λ c. c.name.0) (λ c. refl)

  constructor_same : (k : ℕ) → is_constructor P k ≡ is_constructor Q k
  constructor_same k = passes_same (λ m. m.ctor) (λ m. refl) k

  -- ---- keys and members

  named_same : (name arity k : ℕ) → is_named_at P name arity k ≡ is_named_at Q name arity k
  named_same name arity k = passes_same (λ m. is_named m name arity) (λ m. refl) k

  method_key_same : (named : List (List ℕ)) (name arity : ℕ) → method_key P named name arity ≡ method_key Q named name arity
  method_key_same named name arity = λ i. first_in (λ k. named_same name arity k i) (list_at named name)

  field_named_same : (name k : ℕ) → is_field_named P name k ≡ is_field_named Q name k
  field_named_same name k = field_same P Q h (passes (λ (f : Field). eqb f.name.0 name)) (passes_bare bare_field (λ f. eqb f.name.0 name) (λ f. refl)) k

  field_key_same : (named : List (List ℕ)) (name : ℕ) → field_key P named name ≡ field_key Q named name
  field_key_same named name = λ i. first_in (λ k. field_named_same name k i) (list_at named name)

  open_method_same : (name arity d : ℕ) → open_method P name arity d ≡ open_method Q name arity d
  open_method_same name arity d = first_same bare_method P.methods Q.methods h.methods (λ m. is_named m name arity && eqb m.owner.0 d && not m.is_private) (λ m. refl)

  open_field_same : (name d : ℕ) → open_field P name d ≡ open_field Q name d
  open_field_same name d = first_same bare_field P.fields Q.fields h.fields (λ f. eqb f.name.0 name && eqb f.owner.0 d && not f.is_private) (λ f. refl)

  -- ---- busy classes

  other_same : (k : ℕ) (m : Method) (n : ℕ) → is_other P k m n ≡ is_other Q k m n
  other_same k m n = λ i. not (eqb k n) && named_same m.name.0 (length m.params) n i

  has_other_same : (named : List (List ℕ)) (k : ℕ) (m : Method) → has_other P named k m ≡ has_other Q named k m
  has_other_same named k m = λ i. not m.ctor && some_of (λ n. other_same k m n i) (list_at named m.name.0)

  busy_method_same : (named : List (List ℕ)) (k : ℕ) → is_busy_method P named k ≡ is_busy_method Q named k
  busy_method_same named k = (λ i. passes (λ (m : Method). m.is_abstract || has_other_same named k m i) (method_at P k)) ∙ passes_same (λ m. m.is_abstract || has_other Q named k m) (λ m. refl) k

  busy_same : (own named : List (List ℕ)) (d : ℕ) → is_busy P own named d ≡ is_busy Q own named d
  busy_same own named d = λ i. some_of (λ k. busy_method_same named k i) (list_at own d)

  -- ---- walks and tables

  within_same : (c : ℕ) → c < length Q.classes → c < length P.classes
  within_same c lt = subst (λ n. c < n) (sym (long_same P Q h)) lt

  on_walk_same : (c d : ℕ) → contains (walk Q c) d ≡ true → contains (walk P c) d ≡ true
  on_walk_same c d e = (λ i. contains (walk_same P Q h c i) d) ∙ e

  is_walk_same : (n c : ℕ) (xs : List ℕ) → IsWalk P n c xs → IsWalk Q n c xs
  is_walk_same n c xs w = record { first = λ f k le. (λ i. first_some f (sym (walk_by_same P Q h k c) i)) ∙ w.first f k le; reach = λ d k le. sym (reaches_same P Q h k c d) ∙ w.reach d k le }

  classes_same : (t : Trees) → AreClasses P t → AreClasses Q t
  classes_same t e = record {
    steady = λ c lt. subst (λ n. IsWalk Q n c (walk Q c)) (long_same P Q h) (subst (λ xs. IsWalk Q (length P.classes) c xs) (walk_same P Q h c) (is_walk_same (length P.classes) c (walk P c) (e.steady c (within_same c lt))));
    within = λ c d lt on. subst (λ n. d < n) (long_same P Q h) (e.within c d (within_same c lt) (on_walk_same c d on));
    found = λ c d lc ld. e.found c d (within_same c lc) (within_same d ld) ∙ (λ i. contains (walk_same P Q h c i) d);
  }

  methods_same : (named : List (List ℕ)) (t : Trees) → AreMethods P named t → AreMethods Q named t
  methods_same named t e c name arity key lt k = e c name arity key (within_same c lt) (method_key_same named name arity ∙ k) ∙ (λ i. first_some (λ d. open_method_same name arity d i) (walk_same P Q h c i))

  fields_same : (named : List (List ℕ)) (t : Trees) → AreFields P named t → AreFields Q named t
  fields_same named t e c name key lt k = e c name key (within_same c lt) (field_key_same named name ∙ k) ∙ (λ i. first_some (λ d. open_field_same name d i) (walk_same P Q h c i))

  -- an index of the one is one of the other
  pub index_same : (x : Lists) → IsIndex P x → IsIndex Q x
  index_same x e = record {
    own_is = λ d. e.own_is d ∙ (λ i. places_of d 0 (owners_same i));
    constructors_are = λ d. e.constructors_are d ∙ (λ i. filter (λ k. constructor_same k i) (list_at x.own d));
    fields_are = λ d. e.fields_are d ∙ (λ i. places_of d 0 (field_owners_same i));
    named_is = λ n. e.named_is n ∙ (λ i. places_of n 0 (names_same i));
    named_fields_are = λ n. e.named_fields_are n ∙ (λ i. places_of n 0 (field_names_same i));
    named_classes_are = λ n. e.named_classes_are n ∙ (λ i. places_of n 0 (class_names_same i));
    classes_are = classes_same x.classes e.classes_are;
    methods_are = methods_same x.named x.methods e.methods_are;
    open_fields_are = fields_same x.named_fields x.fields e.open_fields_are;
    few = subst (λ n. n < 2 ^ 32) (long_same P Q h) e.few;
    walks_have = λ c d lt busy on. e.walks_have c d (within_same c lt) (busy_same x.own x.named d ∙ busy) (on_walk_same c d on);
    under_has = λ c d lt busy on. e.under_has c d (within_same c lt) (busy_same x.own x.named d ∙ busy) (on_walk_same c d on);
  }
