-- The tables of classes, methods and fields find what the program has.
use Rattle.std.proofs.Common.{◌≡◌, ◌<◌, ◌≤◌, ◌+◌, ℕ, zero, suc, Bool, true, false, not, cond, ◌||◌, ◌&&◌, ◌⊎◌, inl, inr, List, [], ◌∷◌, ◌++◌, length, Option, Some, None, refl, sym, ap, ◌∙◌, subst, eqb, ltb, arith}
use Rattle.std.specs.Prelude.{slice_get, flat_map, IfSome}
use Rattle.std.proofs.lemmas.Bool.{eqb-true, eq-eqb, ltb-true, lt-ltb, or_left, or_right}
use Rattle.jn_points.specs.declared.program.Field.{Field}
use Rattle.jn_points.specs.declared.program.Method.{Method}
use Rattle.jn_points.specs.declared.program.Program.{Program}
use Rattle.jn_points.specs.Lookup.{field_info, method_at}
use Rattle.jn_points.specs.Members.{first_or, first_some, first_at, is_named, walk, reaches}
use Rattle.jn_member_tables.specs.declared.tables.Entry.{Entry}
use Rattle.jn_member_tables.specs.Numbers.{list_at, places_of, contains, first_in, passes}
use Rattle.jn_member_tables.specs.Along.{is_some}
use Rattle.jn_member_tables.specs.Tables.{Trees, find_in, first_entry, entries_at, offers, SmallKeys, IsTable}
use Rattle.jn_index.specs.Entries.{entry_if, is_open, is_open_field, open_method, open_field, method_key, field_key, method_entry, field_entry, method_entries, field_entries, class_entries, IsListed}
use Rattle.jn_index.specs.Busy.{is_busy}
use Rattle.jn_index.specs.Founds.{AreClasses, AreMethods, AreFields, AreBusy}
use Rattle.jn_index.specs.Index.{owners, field_owners}
use Rattle.jn_member_tables.proofs.Found.{true_or_not, or_true}
use Rattle.jn_member_tables.proofs.Ready.{hit, contains_found, class_inside}
use Rattle.jn_index.proofs.Offered.{first_passes, entries_found}
use Rattle.jn_index.proofs.Declared.{first_of}

pub past_list : (xs : List (List Entry)) (c : ℕ) → length xs ≤ c → entries_at xs c ≡ []
past_list [] c le = refl
past_list (x ∷ xs) zero le = absurd (omega (arith, le))
past_list (x ∷ xs) (suc c) le = past_list xs c (omega (arith, le))

small_listed : (n m : ℕ) (of : ℕ → List Entry) (all : List (List Entry)) → IsListed n of all → ((d : ℕ) → d < n → SmallKeys m (of d)) → (c : ℕ) → SmallKeys m (entries_at all c)
small_listed n m of all listed small c = by (true_or_not (ltb c n))
  where
    by : (ltb c n ≡ true) ⊎ (ltb c n ≡ false) → SmallKeys m (entries_at all c)
    by (inl e) = let lt : c < n = ltb-true c n e in subst (SmallKeys m) (sym (listed.lists c lt)) (small c lt)
    by (inr e) =
        let high : n ≤ c = grind arith in
        let long = listed.long in
        subst (SmallKeys m) (sym (past_list all c (omega (arith, high, long)))) tt

pub small_append : (n : ℕ) (xs ys : List Entry) → SmallKeys n xs → SmallKeys n ys → SmallKeys n (xs ++ ys)
small_append n [] ys a b = b
small_append n (x ∷ xs) ys a b = (a.0, small_append n xs ys a.1 b)

small_class : (b : Bool) (n d : ℕ) → d < n → SmallKeys n (class_entries b d)
small_class true n d lt = (lt, tt)
small_class false n d lt = tt

pub small_classes : (n : ℕ) (all : List (List Entry)) → IsListed n (class_entries true) all → (c : ℕ) → SmallKeys n (entries_at all c)
small_classes n all listed = small_listed n n (class_entries true) all listed (small_class true n)

pub small_busy : (n : ℕ) (busy : ℕ → Bool) (all : List (List Entry)) → IsListed n (λ d. class_entries (busy d) d) all → (c : ℕ) → SmallKeys n (entries_at all c)
small_busy n busy all listed = small_listed n n (λ d. class_entries (busy d) d) all listed (λ d lt. small_class (busy d) n d lt)

-- a key that passes is inside
key_inside : {A : Type 0} (all : List A) (test : A → Bool) (k : ℕ) → passes test (slice_get all k) ≡ true → k < length all
key_inside {A} all test k h = by (slice_get all k) refl h
  where
    by : (o : Option A) → slice_get all k ≡ o → passes test o ≡ true → k < length all
    by None e h = cc
    by (Some x) e h = class_inside all k x e

small_if : (n : ℕ) (o : Option ℕ) (v : ℕ) → ((k : ℕ) → o ≡ Some k → k < n) → SmallKeys n (entry_if o v)
small_if n None v low = tt
small_if n (Some k) v low = (low k refl, tt)

small_cond : (n : ℕ) (b : Bool) (es : List Entry) → SmallKeys n es → SmallKeys n (cond b es [])
small_cond n true es small = small
small_cond n false es small = tt

pub small_methods : (P : Program) (named own : List (List ℕ)) (all : List (List Entry)) → IsListed (length P.classes) (λ d. method_entries P named d (list_at own d)) all → (c : ℕ) → SmallKeys (length P.methods) (entries_at all c)
small_methods P named own all listed = small_listed (length P.classes) (length P.methods) (λ d. method_entries P named d (list_at own d)) all listed (λ d lt. each d (list_at own d))
  where
    one : (d k : ℕ) (o : Option Method) → SmallKeys (length P.methods) (method_entry P named d k o)
    one d k None = tt
    one d k (Some m) = small_cond (length P.methods) (is_open m d) (entry_if (method_key P named m.name.0 (length m.params)) k) (small_if (length P.methods) (method_key P named m.name.0 (length m.params)) k (λ j e. key_inside P.methods (λ (y : Method). is_named y m.name.0 (length m.params)) j (first_passes (λ i. passes (λ (y : Method). is_named y m.name.0 (length m.params)) (method_at P i)) (list_at named m.name.0) j e)))

    each : (d : ℕ) (ks : List ℕ) → SmallKeys (length P.methods) (method_entries P named d ks)
    each d [] = tt
    each d (k ∷ ks) = small_append (length P.methods) (method_entry P named d k (method_at P k)) (method_entries P named d ks) (one d k (method_at P k)) (each d ks)

pub small_fields : (P : Program) (named own : List (List ℕ)) (all : List (List Entry)) → IsListed (length P.classes) (λ d. field_entries P named d (list_at own d)) all → (c : ℕ) → SmallKeys (length P.fields) (entries_at all c)
small_fields P named own all listed = small_listed (length P.classes) (length P.fields) (λ d. field_entries P named d (list_at own d)) all listed (λ d lt. each d (list_at own d))
  where
    one : (d k : ℕ) (o : Option Field) → SmallKeys (length P.fields) (field_entry P named d k o)
    one d k None = tt
    one d k (Some f) = small_cond (length P.fields) (is_open_field f d) (entry_if (field_key P named f.name.0) k) (small_if (length P.fields) (field_key P named f.name.0) k (λ j e. key_inside P.fields (λ (y : Field). eqb y.name.0 f.name.0) j (first_passes (λ i. passes (λ (y : Field). eqb y.name.0 f.name.0) (field_info P i)) (list_at named f.name.0) j e)))

    each : (d : ℕ) (ks : List ℕ) → SmallKeys (length P.fields) (field_entries P named d ks)
    each d [] = tt
    each d (k ∷ ks) = small_append (length P.fields) (field_entry P named d k (field_info P k)) (field_entries P named d ks) (one d k (field_info P k)) (each d ks)

-- what is found along numbers where the same is offered
same_along : (f g : ℕ → Option ℕ) (xs : List ℕ) → ((x : ℕ) → contains xs x ≡ true → f x ≡ g x) → first_some f xs ≡ first_some g xs
same_along f g [] same = refl
same_along f g (x ∷ xs) same =
    ap (λ o. first_or o (first_some f xs)) (same x (or_left (eqb x x) (contains xs x) (eq-eqb x x refl)))
    ∙ ap (first_or (g x)) (same_along f g xs (λ y h. same y (or_right (eqb x y) (contains xs y) h)))

-- the only number that is found
only_found : (g : ℕ → Option ℕ) (d : ℕ) (xs : List ℕ) → g d ≡ Some d → ((x : ℕ) → contains xs x ≡ true → eqb x d ≡ false → g x ≡ None) → contains xs d ≡ true → first_some g xs ≡ Some d
only_found g d [] here none h = cc
only_found g d (x ∷ xs) here none h = by (true_or_not (eqb x d)) (or_true (eqb x d) (contains xs d) h) (only_found g d xs here (λ y k. none y (or_right (eqb x y) (contains xs y) k)))
  where
    by : (eqb x d ≡ true) ⊎ (eqb x d ≡ false) → (eqb x d ≡ true) ⊎ (contains xs d ≡ true) → (contains xs d ≡ true → first_some g xs ≡ Some d) → first_or (g x) (first_some g xs) ≡ Some d
    by (inl e) k rest = ap (λ o. first_or o (first_some g xs)) (ap g (eqb-true x d e) ∙ here)
    by (inr e) (inl k) rest = absurd (let f : true ≡ false = sym k ∙ e in cc)
    by (inr e) (inr k) rest = ap (λ o. first_or o (first_some g xs)) (none x (or_left (eqb x x) (contains xs x) (eq-eqb x x refl)) e) ∙ rest k

module _ (P : Program) (all : List (List Entry)) (n : ℕ) (t : Trees) (table : IsTable P all n t) where
  inside : (c d : ℕ) → c < length P.classes → contains (walk P c) d ≡ true → d < length P.classes
  inside c d lt h = table.within c d (length P.classes) lt ((table.steady c lt).reach d (length P.classes) (omega arith) ∙ h)

  -- what is offered by the classes that are there
  found_as : (f : ℕ → Option ℕ) (c key : ℕ) → c < length P.classes → key < n → ((x : ℕ) → x < length P.classes → offers all key x ≡ f x) → find_in t c key ≡ first_some f (walk P c)
  found_as f c key lt low same = table.finds c key lt low ∙ same_along (offers all key) f (walk P c) (λ x h. same x (inside c x lt h))

pub classes_are : (P : Program) (all : List (List Entry)) (t : Trees) → IsListed (length P.classes) (class_entries true) all → IsTable P all (length P.classes) t → AreClasses P t
classes_are P all t listed table = record {
  steady = table.steady;
  within = inside P all (length P.classes) t table;
  found = λ c d lt low. ap is_some (found_as P all (length P.classes) t table (hit d) c d lt low (λ x k. ap (λ es. first_entry es d) (listed.lists x k))) ∙ sym (contains_found d (walk P c));
}

pub busy_are : (P : Program) (own named : List (List ℕ)) (all : List (List Entry)) (t : Trees) → IsListed (length P.classes) (λ d. class_entries (is_busy P own named d) d) all → IsTable P all (length P.classes) t → AreBusy P own named t
busy_are P own named all t listed table c d lt busy h =
    let low : d < length P.classes = inside P all (length P.classes) t table c d lt h in
    found_as P all (length P.classes) t table g c d lt low (λ x k. ap (λ es. first_entry es d) (listed.lists x k))
    ∙ only_found g d (walk P c) (ap (λ b. first_entry (class_entries b d) d) busy ∙ ap (λ b. cond b (Some d) None) (eq-eqb d d refl)) (λ x k e. other (is_busy P own named x) x e) h
  where
    g : ℕ → Option ℕ
    g x = first_entry (class_entries (is_busy P own named x) x) d

    other : (b : Bool) (x : ℕ) → eqb x d ≡ false → first_entry (class_entries b x) d ≡ None
    other true x e = ap (λ b. cond b (Some x) None) e
    other false x e = refl

-- what an open method's test asks for twice
once : (c n l o p : Bool) → ((c && n && l) && (c && o && p)) ≡ ((c && n && l) && o && p)
once true true true o p = refl
once true true false o p = refl
once true false l o p = refl
once false n l o p = refl

next : (a o p : Bool) → (a && (o && p)) ≡ (a && o && p)
next true o p = refl
next false o p = refl

first_same : (f g : ℕ → Bool) (xs : List ℕ) → ((k : ℕ) → f k ≡ g k) → first_in f xs ≡ first_in g xs
first_same f g [] same = refl
first_same f g (x ∷ xs) same = ap (λ b. cond b (Some x) (first_in f xs)) (same x) ∙ ap (cond (g x) (Some x)) (first_same f g xs same)

passes_same : {A : Type 0} (f g : A → Bool) → ((x : A) → f x ≡ g x) → (o : Option A) → passes f o ≡ passes g o
passes_same f g same None = refl
passes_same f g same (Some x) = same x

apart : (a o p : Bool) → o ≡ false → (a && o && p) ≡ false
apart true true p h = cc
apart true false p h = refl
apart false o p h = refl

three : (a b c : Bool) → (a && b && c) ≡ true → (a ≡ true) × (b ≡ true) × (c ≡ true)
three true true true h = (refl, refl, refl)
three true true false h = cc
three true false c h = cc
three false b c h = cc

all_three : (a b c : Bool) → a ≡ true → b ≡ true → c ≡ true → (a && b && c) ≡ true
all_three true true true e f g = refl
all_three true true false e f g = cc
all_three true false c e f g = cc
all_three false b c e f g = cc

pub methods_are : (P : Program) (own named : List (List ℕ)) (all : List (List Entry)) (t : Trees) → ((d : ℕ) → list_at own d ≡ places_of d 0 (owners P.methods)) → IsListed (length P.classes) (λ d. method_entries P named d (list_at own d)) all → IsTable P all (length P.methods) t → AreMethods P named t
methods_are P own named all t own_is listed table c name arity key lt is =
    found_as P all (length P.methods) t table (open_method P name arity) c key lt (key_inside P.methods (λ (y : Method). is_named y name arity) key (sound (name, arity) key is)) (λ x k.
    ap (λ es. first_entry es key) (listed.lists x k)
    ∙ (entries_found P.methods test ask named_so key_of sound (λ (m : Method). is_open m x) (λ m. self m x) (name, arity) key is (list_at own x)
    ∙ (first_same (λ k. passes (λ (m : Method). is_named m name arity && is_open m x) (method_at P k)) (λ k. passes (λ (m : Method). is_named m name arity && eqb m.owner.0 x && not m.is_private) (method_at P k)) (list_at own x) (λ k. passes_same (λ (m : Method). is_named m name arity && is_open m x) (λ (m : Method). is_named m name arity && eqb m.owner.0 x && not m.is_private) (λ m. once (not m.ctor) (eqb m.name.0 name) (eqb (length m.params) arity) (eqb m.owner.0 x) (not m.is_private)) (method_at P k))
    ∙ (ap (first_in (λ k. passes (λ (m : Method). is_named m name arity && eqb m.owner.0 x && not m.is_private) (method_at P k))) (own_is x)
    ∙ first_of P.methods (λ (m : Method). m.owner.0) x (λ (m : Method). is_named m name arity && eqb m.owner.0 x && not m.is_private) (λ m e. apart (is_named m name arity) (eqb m.owner.0 x) (not m.is_private) e)))))
  where
    test : (ℕ × ℕ) → Method → Bool
    test q m = is_named m q.0 q.1

    ask : Method → ℕ × ℕ
    ask m = (m.name.0, length m.params)

    key_of : (ℕ × ℕ) → Option ℕ
    key_of q = method_key P named q.0 q.1

    sound : (q : ℕ × ℕ) (k : ℕ) → key_of q ≡ Some k → passes (test q) (slice_get P.methods k) ≡ true
    sound q k e = first_passes (λ i. passes (λ (m : Method). is_named m q.0 q.1) (method_at P i)) (list_at named q.0) k e

    named_so : (q : ℕ × ℕ) (m : Method) → test q m ≡ true → q ≡ ask m
    named_so (a, b) m h =
        let parts = three (not m.ctor) (eqb m.name.0 a) (eqb (length m.params) b) h in
        let n : a ≡ m.name.0 = sym (eqb-true m.name.0 a parts.1) in
        let l : b ≡ length m.params = sym (eqb-true (length m.params) b parts.2) in
        ap (λ z. (z, b)) n ∙ ap (λ z. (m.name.0, z)) l

    self : (m : Method) (x : ℕ) → is_open m x ≡ true → test (ask m) m ≡ true
    self m x h = all_three (not m.ctor) (eqb m.name.0 m.name.0) (eqb (length m.params) (length m.params)) (three (not m.ctor) (eqb m.owner.0 x) (not m.is_private) h).0 (eq-eqb m.name.0 m.name.0 refl) (eq-eqb (length m.params) (length m.params) refl)

pub fields_are : (P : Program) (own named : List (List ℕ)) (all : List (List Entry)) (t : Trees) → ((d : ℕ) → list_at own d ≡ places_of d 0 (field_owners P.fields)) → IsListed (length P.classes) (λ d. field_entries P named d (list_at own d)) all → IsTable P all (length P.fields) t → AreFields P named t
fields_are P own named all t own_is listed table c name key lt is =
    found_as P all (length P.fields) t table (open_field P name) c key lt (key_inside P.fields (λ (y : Field). eqb y.name.0 name) key (sound name key is)) (λ x k.
    ap (λ es. first_entry es key) (listed.lists x k)
    ∙ (entries_found P.fields test (λ (f : Field). f.name.0) named_so (field_key P named) sound (λ (f : Field). is_open_field f x) (λ f h. eq-eqb f.name.0 f.name.0 refl) name key is (list_at own x)
    ∙ (first_same (λ k. passes (λ (f : Field). eqb f.name.0 name && is_open_field f x) (field_info P k)) (λ k. passes (λ (f : Field). eqb f.name.0 name && eqb f.owner.0 x && not f.is_private) (field_info P k)) (list_at own x) (λ k. passes_same (λ (f : Field). eqb f.name.0 name && is_open_field f x) (λ (f : Field). eqb f.name.0 name && eqb f.owner.0 x && not f.is_private) (λ f. next (eqb f.name.0 name) (eqb f.owner.0 x) (not f.is_private)) (field_info P k))
    ∙ (ap (first_in (λ k. passes (λ (f : Field). eqb f.name.0 name && eqb f.owner.0 x && not f.is_private) (field_info P k))) (own_is x)
    ∙ first_of P.fields (λ (f : Field). f.owner.0) x (λ (f : Field). eqb f.name.0 name && eqb f.owner.0 x && not f.is_private) (λ f e. apart (eqb f.name.0 name) (eqb f.owner.0 x) (not f.is_private) e)))))
  where
    test : ℕ → Field → Bool
    test q f = eqb f.name.0 q

    sound : (q k : ℕ) → field_key P named q ≡ Some k → passes (test q) (slice_get P.fields k) ≡ true
    sound q k e = first_passes (λ i. passes (λ (f : Field). eqb f.name.0 q) (field_info P i)) (list_at named q) k e

    named_so : (q : ℕ) (f : Field) → test q f ≡ true → q ≡ f.name.0
    named_so q f h = sym (eqb-true f.name.0 q h)

pub busy_walks : (P : Program) (own named : List (List ℕ)) (t : Trees) (n : ℕ) (lists : List (List ℕ)) → AreBusy P own named t → n ≡ length P.classes → ((c k v : ℕ) → c < n → find_in t c k ≡ Some v → contains (list_at lists c) v ≡ true) → (c d : ℕ) → c < length P.classes → is_busy P own named d ≡ true → contains (walk P c) d ≡ true → contains (list_at lists c) d ≡ true
busy_walks P own named t n lists are long have c d lt busy h = have c d d (omega (arith, lt, long)) (are c d lt busy h)

pub busy_under : (P : Program) (own named : List (List ℕ)) (t u : Trees) (n : ℕ) (lists under : List (List ℕ)) → AreClasses P u → AreBusy P own named t → n ≡ length P.classes → length lists ≡ n → ((c k v : ℕ) → c < n → find_in t c k ≡ Some v → contains (list_at lists c) v ≡ true) → ((c d : ℕ) → c < length lists → d < length lists → contains (list_at lists c) d ≡ true → contains (list_at under d) c ≡ true) → (c d : ℕ) → c < length P.classes → is_busy P own named d ≡ true → contains (walk P c) d ≡ true → contains (list_at under d) c ≡ true
busy_under P own named t u n lists under classes are long count have met c d lt busy h =
    let low : d < length P.classes = classes.within c d lt h in
    met c d (omega (arith, lt, long, count)) (omega (arith, low, long, count)) (busy_walks P own named t n lists are long have c d lt busy h)

pub methods_some : (P : Program) (own named : List (List ℕ)) (all entries : List (List Entry)) (n : ℕ) (o : Option Trees) → entries ≡ all → n ≡ length P.methods → ((d : ℕ) → list_at own d ≡ places_of d 0 (owners P.methods)) → IsListed (length P.classes) (λ d. method_entries P named d (list_at own d)) all → IfSome o (λ t. IsTable P entries n t) → IfSome o (λ t. AreMethods P named t)
methods_some P own named all entries n None e count own_is listed h = h
methods_some P own named all entries n (Some t) e count own_is listed h = methods_are P own named all t own_is listed (subst (λ es. IsTable P es (length P.methods) t) e (subst (λ m. IsTable P entries m t) count h))

pub fields_some : (P : Program) (own named : List (List ℕ)) (all entries : List (List Entry)) (n : ℕ) (o : Option Trees) → entries ≡ all → n ≡ length P.fields → ((d : ℕ) → list_at own d ≡ places_of d 0 (field_owners P.fields)) → IsListed (length P.classes) (λ d. field_entries P named d (list_at own d)) all → IfSome o (λ t. IsTable P entries n t) → IfSome o (λ t. AreFields P named t)
fields_some P own named all entries n None e count own_is listed h = h
fields_some P own named all entries n (Some t) e count own_is listed h = fields_are P own named all t own_is listed (subst (λ es. IsTable P es (length P.fields) t) e (subst (λ m. IsTable P entries m t) count h))

-- the same list of entries, and the same number
pub small_as : (all entries : List (List Entry)) (n m : ℕ) → entries ≡ all → n ≡ m → ((c : ℕ) → SmallKeys m (entries_at all c)) → (c : ℕ) → SmallKeys n (entries_at entries c)
small_as all entries n m e count small c = subst (λ es. SmallKeys n (entries_at es c)) (sym e) (subst (λ k. SmallKeys k (entries_at all c)) (sym count) (small c))
