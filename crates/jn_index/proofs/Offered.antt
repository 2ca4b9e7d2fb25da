-- What a class has for itself at a key is what it declares for its subclasses.
use Rattle.std.proofs.Common.{◌≡◌, ◌<◌, ◌≤◌, ◌+◌, ℕ, zero, suc, Bool, true, false, not, cond, ◌||◌, ◌&&◌, ◌⊎◌, inl, inr, List, [], ◌∷◌, ◌++◌, length, drop, get_or, Option, Some, None, refl, sym, ap, ◌∙◌, subst, eqb, arith}
use Rattle.std.specs.Prelude.{slice_get, flat_map, slice_index_or}
use Rattle.std.proofs.lemmas.Bool.{eqb-true, eq-eqb}
use Rattle.std.proofs.lemmas.List.{at_drop_more, append_assoc}
use Rattle.jn_points.specs.declared.program.Field.{Field}
use Rattle.jn_points.specs.declared.program.Method.{Method}
use Rattle.jn_points.specs.declared.program.Program.{Program}
use Rattle.jn_points.specs.Lookup.{field_info, method_at}
use Rattle.jn_points.specs.Members.{first_or, is_named}
use Rattle.jn_member_tables.specs.declared.tables.Entry.{Entry}
use Rattle.jn_member_tables.specs.Numbers.{list_at, first_in, passes}
use Rattle.jn_member_tables.specs.Tables.{first_entry, entries_at, SmallKeys}
use Rattle.jn_index.specs.Entries.{entry_if, is_open, is_open_field, is_named_at, is_field_named, method_key, field_key, method_entry, field_entry, method_entries, field_entries, IsListed}
use Rattle.jn_member_tables.proofs.Found.{true_or_not}

-- the entries of one member more
pub entries_more : (f : ℕ → List Entry) (ks : List ℕ) (i : ℕ) (old new : List Entry) → i < length ks → new ≡ old ++ f (get_or ks i 0) → old ++ flat_map f (drop i ks) ≡ flat_map f ks → new ++ flat_map f (drop (i + 1) ks) ≡ flat_map f ks
entries_more f ks i old new lt e h = ap (λ r. r ++ flat_map f (drop (i + 1) ks)) e ∙ (append_assoc old (f (get_or ks i 0)) (flat_map f (drop (i + 1) ks)) ∙ (sym (ap (λ r. old ++ r) (at_drop_more (flat_map f) ks i 0 lt)) ∙ h))

list_kept : (xs : List (List Entry)) (x : List Entry) (d : ℕ) → d < length xs → entries_at (xs ++ x ∷ []) d ≡ entries_at xs d
list_kept [] x d lt = absurd (omega (arith, lt))
list_kept (y ∷ xs) x zero lt = refl
list_kept (y ∷ xs) x (suc d) lt = list_kept xs x d (omega (arith, lt))

list_last : (xs : List (List Entry)) (x : List Entry) → entries_at (xs ++ x ∷ []) (length xs) ≡ x
list_last [] x = refl
list_last (y ∷ xs) x = list_last xs x

list_long : (xs : List (List Entry)) (x : List Entry) → length (xs ++ x ∷ []) ≡ suc (length xs)
list_long [] x = refl
list_long (y ∷ xs) x = ap suc (list_long xs x)

-- the list of one class more
pub listed_more : (n : ℕ) (of : ℕ → List Entry) (old new : List (List Entry)) (x : List Entry) → new ≡ old ++ x ∷ [] → x ≡ of n → IsListed n of old → IsListed (n + 1) of new
listed_more n of old new x e is listed = subst (IsListed (n + 1) of) (sym e) (record { long = (let a = list_long old x in let b = listed.long in omega (arith, a, b)); lists = lists })
  where
    lists : (d : ℕ) → d < n + 1 → entries_at (old ++ x ∷ []) d ≡ of d
    lists d lt = by (true_or_not (eqb d n))
      where
        by : (eqb d n ≡ true) ⊎ (eqb d n ≡ false) → entries_at (old ++ x ∷ []) d ≡ of d
        by (inl k) =
            let s : d ≡ n = eqb-true d n k in
            let l : length old ≡ d = listed.long ∙ sym s in
            ap (entries_at (old ++ x ∷ [])) (sym l) ∙ (list_last old x ∙ (is ∙ ap of (sym s)))
        by (inr k) =
            let other : d ≡ n → ⊥ = λ s. (let t = eq-eqb d n s in cc) in
            let low : d < n = grind (arith, lt) in
            let long = listed.long in
            list_kept old x d (omega (arith, low, long)) ∙ listed.lists d low

pub listed_none : (of : ℕ → List Entry) → IsListed 0 of []
listed_none of = record { long = refl; lists = λ d lt. absurd (omega (arith, lt)) }

entry_append : (xs ys : List Entry) (key : ℕ) → first_entry (xs ++ ys) key ≡ first_or (first_entry xs key) (first_entry ys key)
entry_append [] ys key = refl
entry_append (x ∷ xs) ys key = by (eqb x.key key) (entry_append xs ys key)
  where
    by : (b : Bool) → first_entry (xs ++ ys) key ≡ first_or (first_entry xs key) (first_entry ys key) → cond b (Some x.value) (first_entry (xs ++ ys) key) ≡ first_or (cond b (Some x.value) (first_entry xs key)) (first_entry ys key)
    by true e = refl
    by false e = e

pub first_passes : (test : ℕ → Bool) (xs : List ℕ) (k : ℕ) → first_in test xs ≡ Some k → test k ≡ true
first_passes test [] k e = cc
first_passes test (x ∷ xs) k e = by (true_or_not (test x)) (first_passes test xs k)
  where
    by : (test x ≡ true) ⊎ (test x ≡ false) → (first_in test xs ≡ Some k → test k ≡ true) → test k ≡ true
    by (inl t) rest = let s : x ≡ k = (let f : cond (test x) (Some x) (first_in test xs) ≡ Some x = ap (λ b. cond b (Some x) (first_in test xs)) t in cc) in subst (λ z. test z ≡ true) s t
    by (inr t) rest = rest (rw t at e)

-- items asked for by what they are named; each has one name
module _ {A Q : Type 0} (all : List A) (test : Q → A → Bool) (ask : A → Q) (named : (q : Q) (a : A) → test q a ≡ true → q ≡ ask a) (key_of : Q → Option ℕ) (sound : (q : Q) (k : ℕ) → key_of q ≡ Some k → passes (test q) (slice_get all k) ≡ true) (seen : A → Bool) (self : (a : A) → seen a ≡ true → test (ask a) a ≡ true) (q : Q) (key : ℕ) (is : key_of q ≡ Some key) where
  abbrev entry : ℕ → Option A → List Entry
  entry k None = []
  entry k (Some a) = cond (seen a) (entry_if (key_of (ask a)) k) []

  one_name : (o : Option A) (p : Q) → passes (test q) o ≡ true → passes (test p) o ≡ true → q ≡ p
  one_name None p e f = cc
  one_name (Some a) p e f = named q a e ∙ sym (named p a f)

  same_key : (a : A) (j : ℕ) → seen a ≡ true → key_of (ask a) ≡ Some j → eqb j key ≡ test q a
  same_key a j opened at = by (eqb j key) refl (test q a) refl
    where
      by : (b : Bool) → eqb j key ≡ b → (c : Bool) → test q a ≡ c → b ≡ c
      by true e true f = refl
      by false e false f = refl
      by true e false f =
          let s : key_of (ask a) ≡ Some key = at ∙ ap Some (eqb-true j key e) in
          let p : q ≡ ask a = one_name (slice_get all key) (ask a) (sound q key is) (sound (ask a) key s) in
          let t : test q a ≡ true = ap (λ z. test z a) p ∙ self a opened in cc
      by false e true f =
          let s : Some key ≡ Some j = sym is ∙ (ap key_of (named q a f) ∙ at) in
          let t : eqb j key ≡ true = eq-eqb j key (let u : key ≡ j = cc in sym u) in cc

  entry_found : (k : ℕ) (o : Option A) → first_entry (entry k o) key ≡ cond (passes (λ a. test q a && seen a) o) (Some k) None
  entry_found k None = refl
  entry_found k (Some a) = by (seen a) refl
    where
      keyed : (o : Option ℕ) → key_of (ask a) ≡ o → seen a ≡ true → first_entry (entry_if o k) key ≡ cond (test q a && true) (Some k) None
      keyed None e opened = on (true_or_not (test q a))
        where
          on : (test q a ≡ true) ⊎ (test q a ≡ false) → None ≡ cond (test q a && true) (Some k) None
          on (inl t) = let f : Some key ≡ None = sym is ∙ (ap key_of (named q a t) ∙ e) in cc
          on (inr t) = rw t refl
      keyed (Some j) e opened = ap (λ b. cond b (Some k) None) (same_key a j opened e ∙ and_one (test q a))
        where
          and_one : (b : Bool) → b ≡ (b && true)
          and_one true = refl
          and_one false = refl

      none : (b : Bool) → None ≡ cond (b && false) (Some k) None
      none true = refl
      none false = refl

      by : (b : Bool) → seen a ≡ b → first_entry (cond b (entry_if (key_of (ask a)) k) []) key ≡ cond (test q a && b) (Some k) None
      by true e = keyed (key_of (ask a)) refl e
      by false e = none (test q a)

  pub entries_found : (ks : List ℕ) → first_entry (flat_map (λ k. entry k (slice_get all k)) ks) key ≡ first_in (λ k. passes (λ a. test q a && seen a) (slice_get all k)) ks
  entries_found [] = refl
  entries_found (k ∷ ks) =
      entry_append (entry k (slice_get all k)) (flat_map (λ k. entry k (slice_get all k)) ks) key
      ∙ (ap (λ o. first_or o (first_entry (flat_map (λ k. entry k (slice_get all k)) ks) key)) (entry_found k (slice_get all k))
      ∙ (ap (first_or (cond (passes (λ a. test q a && seen a) (slice_get all k)) (Some k) None)) (entries_found ks)
      ∙ split (passes (λ a. test q a && seen a) (slice_get all k))))
    where
      split : (b : Bool) → first_or (cond b (Some k) None) (first_in (λ k. passes (λ a. test q a && seen a) (slice_get all k)) ks) ≡ cond b (Some k) (first_in (λ k. passes (λ a. test q a && seen a) (slice_get all k)) ks)
      split true = refl
      split false = refl
