-- Tables of the classes that declare fields find them along each walk.
use Rattle.std.proofs.Common.{◌≡◌, ◌<◌, ◌≤◌, ℕ, zero, suc, Bool, true, false, cond, ◌||◌, ◌&&◌, ◌⊎◌, inl, inr, List, [], ◌∷◌, ◌++◌, length, Option, Some, None, refl, sym, ap, ◌∙◌, subst, eqb, ltb, arith}
use Rattle.std.specs.Prelude.{slice_get, IfSome}
use Rattle.std.proofs.lemmas.Bool.{eqb-true, eq-eqb, ltb-true, lt-ltb, or_left, or_right}
use Rattle.jn_points.specs.declared.program.Field.{Field}
use Rattle.jn_points.specs.declared.program.Program.{Program}
use Rattle.jn_points.specs.Lookup.{field_info}
use Rattle.jn_points.specs.Members.{some_of, first_or, first_some, walk, reaches}
use Rattle.jn_member_tables.specs.declared.tables.Entry.{Entry}
use Rattle.jn_member_tables.specs.Numbers.{places_of, contains}
use Rattle.jn_index.specs.Index.{field_owners}
use Rattle.jn_index.specs.Entries.{IsListed}
use Rattle.jn_member_tables.specs.Tables.{Trees, find_in, first_entry, entries_at, offers, SmallKeys, IsTable}
use Rattle.jn_index.proofs.Offers.{past_list, small_append}
use Rattle.jn_declaration_rules.specs.Listed.{there}
use Rattle.jn_declaration_rules.specs.Hidden.{declares, owner_entry, owner_entries, AreOwners}
use Rattle.jn_declaration_rules.proofs.Tests.{or_true, true_or_not, not_both}
use Rattle.jn_declaration_rules.proofs.Listed.{some_listed}
use Rattle.jn_declaration_rules.proofs.HiddenFields.{some_at_any}

small_entry : (n d : ℕ) (o : Option Field) → SmallKeys n (owner_entry n d o)
small_entry n d None = tt
small_entry n d (Some f) = by (eqb f.owner.0 d) (ltb f.name.0 n) refl
  where
    by : (a b : Bool) → ltb f.name.0 n ≡ b → SmallKeys n (cond (a && b) (record { key = f.name.0; value = d } ∷ []) [])
    by true true e = (ltb-true f.name.0 n e, tt)
    by true false e = tt
    by false b e = tt

small_entries : (P : Program) (n d : ℕ) (ks : List ℕ) → SmallKeys n (owner_entries P n d ks)
small_entries P n d [] = tt
small_entries P n d (k ∷ ks) = small_append n (owner_entry n d (field_info P k)) (owner_entries P n d ks) (small_entry n d (field_info P k)) (small_entries P n d ks)

-- no walk finds nothing where a class on it offers something
none_along : (f : ℕ → Option ℕ) (xs : List ℕ) (d : ℕ) → first_some f xs ≡ None → contains xs d ≡ true → f d ≡ None
none_along f [] d h k = cc
none_along f (x ∷ xs) d h k = by (f x) refl (or_true (eqb x d) (contains xs d) k) h (none_along f xs d)
  where
    by : (o : Option ℕ) → f x ≡ o → (eqb x d ≡ true) ⊎ (contains xs d ≡ true) → first_or o (first_some f xs) ≡ None → (first_some f xs ≡ None → contains xs d ≡ true → f d ≡ None) → f d ≡ None
    by None e (inl s) h rest = subst (λ z. f z ≡ None) (eqb-true x d s) e
    by None e (inr s) h rest = rest h s
    by (Some v) e s h rest = cc

-- what a walk finds a class on it offers
some_along : (f : ℕ → Option ℕ) (xs : List ℕ) (v : ℕ) → first_some f xs ≡ Some v → (d : ℕ) × (contains xs d ≡ true) × (f d ≡ Some v)
some_along f [] v h = cc
some_along f (x ∷ xs) v h = by (f x) refl h (some_along f xs v)
  where
    by : (o : Option ℕ) → f x ≡ o → first_or o (first_some f xs) ≡ Some v → (first_some f xs ≡ Some v → (d : ℕ) × (contains xs d ≡ true) × (f d ≡ Some v)) → (d : ℕ) × (contains (x ∷ xs) d ≡ true) × (f d ≡ Some v)
    by None e h rest = let r = rest h in (r.0, or_right (eqb x r.0) (contains xs r.0) r.1, r.2)
    by (Some u) e h rest = (x, or_left (eqb x x) (contains xs x) (eq-eqb x x refl), e ∙ h)

-- a class has an entry at a name where it declares a field of the name
module _ (P : Program) (n d name : ℕ) (low : name < n) where
  abbrev fits : Field → Bool
  fits y = eqb y.owner.0 d && eqb y.name.0 name

  entry_found : (o : Option Field) (es : List Entry) (b : Bool) → first_entry es name ≡ cond b (Some d) None → first_entry (owner_entry n d o ++ es) name ≡ cond (there fits o || b) (Some d) None
  entry_found None es b h = h
  entry_found (Some f) es b h = by (eqb f.owner.0 d) (ltb f.name.0 n) refl (eqb f.name.0 name) refl
    where
      by : (o l : Bool) → ltb f.name.0 n ≡ l → (e : Bool) → eqb f.name.0 name ≡ e → first_entry (cond (o && l) (record { key = f.name.0; value = d } ∷ []) [] ++ es) name ≡ cond ((o && e) || b) (Some d) None
      by false l k e s = h
      by true true k true s = ap (λ t. cond t (Some d) (first_entry es name)) s
      by true true k false s = ap (λ t. cond t (Some d) (first_entry es name)) s ∙ h
      by true false k true s = absurd (not_both (ltb f.name.0 n) (lt-ltb f.name.0 n (subst (λ z. z < n) (sym (eqb-true f.name.0 name s)) low)) k)
      by true false k false s = h

  entries_found : (ks : List ℕ) → first_entry (owner_entries P n d ks) name ≡ cond (some_of (λ k. there fits (slice_get P.fields k)) ks) (Some d) None
  entries_found [] = refl
  entries_found (k ∷ ks) = entry_found (field_info P k) (owner_entries P n d ks) (some_of (λ k. there fits (slice_get P.fields k)) ks) (entries_found ks)

  listed_declares : some_of (λ k. there fits (slice_get P.fields k)) (places_of d 0 (field_owners P.fields)) ≡ declares P d name
  listed_declares =
      some_listed P.fields (λ (y : Field). y.owner.0) d (λ k (y : Field). fits y) (λ k y e. ap (λ b. b && eqb y.name.0 name) e)
      ∙ some_at_any fits 0 P.fields

module _ (P : Program) (n : ℕ) (all : List (List Entry)) (listed : IsListed (length P.classes) (λ d. owner_entries P n d (places_of d 0 (field_owners P.fields))) all) where
  pub small_owners : (c : ℕ) → SmallKeys n (entries_at all c)
  small_owners c = by (true_or_not (ltb c (length P.classes)))
    where
      by : (ltb c (length P.classes) ≡ true) ⊎ (ltb c (length P.classes) ≡ false) → SmallKeys n (entries_at all c)
      by (inl e) = subst (SmallKeys n) (sym (listed.lists c (ltb-true c (length P.classes) e))) (small_entries P n c (places_of c 0 (field_owners P.fields)))
      by (inr e) =
          let high : length P.classes ≤ c = grind arith in
          let long = listed.long in
          subst (SmallKeys n) (sym (past_list all c (omega (arith, high, long)))) tt

  offered : (d name : ℕ) → d < length P.classes → name < n → offers all name d ≡ cond (declares P d name) (Some d) None
  offered d name lt low =
      ap (λ es. first_entry es name) (listed.lists d lt)
      ∙ (entries_found P n d name low (places_of d 0 (field_owners P.fields))
      ∙ ap (λ b. cond b (Some d) None) (listed_declares P n d name low))

  nothing : (b : Bool) (d : ℕ) → cond b (Some d) None ≡ None → b ≡ false
  nothing true d h = cc
  nothing false d h = refl

  something : (b : Bool) (d v : ℕ) → cond b (Some d) None ≡ Some v → (d ≡ v) × (b ≡ true)
  something true d v h = (cc, refl)
  something false d v h = cc

  module _ (t : Trees) (table : IsTable P all n t) where
    none_declares : (c d name : ℕ) → c < length P.classes → name < n → find_in t c name ≡ None → reaches P (length P.classes) c d ≡ true → declares P d name ≡ false
    none_declares c d name lt low e r =
        let met : contains (walk P c) d ≡ true = sym ((table.steady c lt).reach d (length P.classes) (omega arith)) ∙ r in
        let inside : d < length P.classes = table.within c d (length P.classes) lt r in
        nothing (declares P d name) d (sym (offered d name inside low) ∙ none_along (offers all name) (walk P c) d (sym (table.finds c name lt low) ∙ e) met)

    some_declares : (c d name : ℕ) → c < length P.classes → name < n → find_in t c name ≡ Some d → (reaches P (length P.classes) c d ≡ true) × (declares P d name ≡ true)
    some_declares c d name lt low e =
        let found = some_along (offers all name) (walk P c) d (sym (table.finds c name lt low) ∙ e) in
        let r : reaches P (length P.classes) c found.0 ≡ true = (table.steady c lt).reach found.0 (length P.classes) (omega arith) ∙ found.1 in
        let inside : found.0 < length P.classes = table.within c found.0 (length P.classes) lt r in
        let own = something (declares P found.0 name) found.0 d (sym (offered found.0 name inside low) ∙ found.2) in
        (subst (λ z. reaches P (length P.classes) c z ≡ true) own.0 r, subst (λ z. declares P z name ≡ true) own.0 own.1)

    pub owners_are : AreOwners P n t
    owners_are = record {
      steady = λ c d lt. (table.steady c lt).reach d (suc (length P.classes)) (omega arith) ∙ sym ((table.steady c lt).reach d (length P.classes) (omega arith));
      within = table.within;
      none = none_declares;
      some = some_declares;
    }

  pub owners_some : (o : Option Trees) → IfSome o (λ t. IsTable P all n t) → IfSome o (λ t. AreOwners P n t)
  owners_some None h = h
  owners_some (Some t) h = owners_are t h
