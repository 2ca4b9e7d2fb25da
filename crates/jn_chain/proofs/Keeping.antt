-- Keys of sources, sets of them that grow, and what is known of items.
use Rattle.std.proofs.Common.{◌≡◌, ◌⊎◌, inl, inr, ⊎_elim, ℕ, Bool, true, false, cond, ◌&&◌, List, [], ◌∷◌, ◌++◌, Option, Some, None, refl, sym, ap, ◌∙◌, subst}
use Rattle.std.specs.Prelude.{eqb}
use Rattle.std.specs.HashMap.{HashMap, get}
use Rattle.std.specs.HashSet.{HashSet, contains}
use Rattle.std.specs.Map.{lookup}
use Rattle.std.proofs.lemmas.Bool.{and_from, and_parts, eqb-true, eq-eqb, true≢false}
use Rattle.jn_reasons_law.specs.declared.item.Bit.{Bit}
use Rattle.jn_reasons_law.specs.declared.item.Bit.TheVariants.{Nullable, Committed, Free}
use Rattle.jn_reasons_law.specs.declared.item.Item.{Item}
use Rattle.jn_reasons_law.specs.declared.item.Item.TheVariants.{AtSlot, AtRegister}
use Rattle.jn_reasons_law.specs.Choice.{bit_no}
use Rattle.jn_reasons_law.specs.Sources.{IsOneOf}
use Rattle.jn_chain.specs.Keys.{Key, key_of, key_eq, AreKept, kept_of, IsPut}
use Rattle.jn_chain.proofs.Members.{one_left, pushed, push_cases}

same_bit : (a b : Bit) → bit_no a ≡ bit_no b → a ≡ b
same_bit Nullable Nullable e = refl
same_bit Nullable Committed e = cc
same_bit Nullable Free e = cc
same_bit Committed Nullable e = cc
same_bit Committed Committed e = refl
same_bit Committed Free e = cc
same_bit Free Nullable e = cc
same_bit Free Committed e = cc
same_bit Free Free e = refl

-- what two keys have alike
record IsAlike (x y : Key) : Type 0 where
  pub kind : x.0.0 ≡ y.0.0
  pub body : x.0.1 ≡ y.0.1
  pub point : x.1.0.0 ≡ y.1.0.0
  pub reg : x.1.0.1 ≡ y.1.0.1
  pub bit : x.1.1 ≡ y.1.1

alike : (x y : Key) → key_eq x y ≡ true → IsAlike x y
alike x y h =
    let f = and_parts (eqb x.0.0 y.0.0 && eqb x.0.1 y.0.1) ((eqb x.1.0.0 y.1.0.0 && eqb x.1.0.1 y.1.0.1) && eqb x.1.1 y.1.1) h in
    let a = and_parts (eqb x.0.0 y.0.0) (eqb x.0.1 y.0.1) f.0 in
    let g = and_parts (eqb x.1.0.0 y.1.0.0 && eqb x.1.0.1 y.1.0.1) (eqb x.1.1 y.1.1) f.1 in
    let d = and_parts (eqb x.1.0.0 y.1.0.0) (eqb x.1.0.1 y.1.0.1) g.0 in
    record { kind = eqb-true x.0.0 y.0.0 a.0; body = eqb-true x.0.1 y.0.1 a.1; point = eqb-true x.1.0.0 y.1.0.0 d.0; reg = eqb-true x.1.0.1 y.1.0.1 d.1; bit = eqb-true x.1.1 y.1.1 g.1 }

itself : (x : Key) → key_eq x x ≡ true
itself x =
    and_from (eqb x.0.0 x.0.0 && eqb x.0.1 x.0.1) ((eqb x.1.0.0 x.1.0.0 && eqb x.1.0.1 x.1.0.1) && eqb x.1.1 x.1.1)
    (and_from (eqb x.0.0 x.0.0) (eqb x.0.1 x.0.1) (eq-eqb x.0.0 x.0.0 refl) (eq-eqb x.0.1 x.0.1 refl))
    (and_from (eqb x.1.0.0 x.1.0.0 && eqb x.1.0.1 x.1.0.1) (eqb x.1.1 x.1.1)
    (and_from (eqb x.1.0.0 x.1.0.0) (eqb x.1.0.1 x.1.0.1) (eq-eqb x.1.0.0 x.1.0.0 refl) (eq-eqb x.1.0.1 x.1.0.1 refl)) (eq-eqb x.1.1 x.1.1 refl))

-- a key is that of one source
one_source : (a b : Option Item) → IsAlike (key_of a) (key_of b) → a ≡ b
one_source None None h = refl
one_source None (Some (AtSlot l d)) h = let e = h.kind in absurd (zero_one e)
  where
    zero_one : ◌≡◌ {A = ℕ} 0 1 → ⊥
    zero_one e = cc
one_source None (Some (AtRegister f g i d)) h = let e = h.kind in absurd (zero_two e)
  where
    zero_two : ◌≡◌ {A = ℕ} 0 2 → ⊥
    zero_two e = cc
one_source (Some (AtSlot k c)) None h = let e = h.kind in absurd (one_zero e)
  where
    one_zero : ◌≡◌ {A = ℕ} 1 0 → ⊥
    one_zero e = cc
one_source (Some (AtSlot k c)) (Some (AtSlot l d)) h = ap (λ (n : ℕ). Some (AtSlot n c)) h.body ∙ ap (λ (x : Bit). Some (AtSlot l x)) (same_bit c d h.bit)
one_source (Some (AtSlot k c)) (Some (AtRegister f g i d)) h = let e = h.kind in absurd (one_two e)
  where
    one_two : ◌≡◌ {A = ℕ} 1 2 → ⊥
    one_two e = cc
one_source (Some (AtRegister b p r c)) None h = let e = h.kind in absurd (two_zero e)
  where
    two_zero : ◌≡◌ {A = ℕ} 2 0 → ⊥
    two_zero e = cc
one_source (Some (AtRegister b p r c)) (Some (AtSlot l d)) h = let e = h.kind in absurd (two_one e)
  where
    two_one : ◌≡◌ {A = ℕ} 2 1 → ⊥
    two_one e = cc
one_source (Some (AtRegister b p r c)) (Some (AtRegister f g i d)) h =
    ap (λ (n : ℕ). Some (AtRegister n p r c)) h.body ∙ ap (λ (n : ℕ). Some (AtRegister f n r c)) h.point ∙ ap (λ (n : ℕ). Some (AtRegister f g n c)) h.reg ∙ ap (λ (x : Bit). Some (AtRegister f g i x)) (same_bit c d h.bit)

-- a source more
pub kept_more : {S : Type 0} (list new : List (Option Item)) (old set : HashSet Key S) (z : Option Item) (key : Key) → key ≡ key_of z → new ≡ list ++ z ∷ [] → AreKept list old
    → ((q : Key) → contains key_eq set q ≡ cond (key_eq key q) true (contains key_eq old q)) → AreKept new set
kept_more {S} list new old set z key is en h updates = subst (λ (l : List (Option Item)). AreKept l set) (sym en) (record {
  all = λ w m. ⊎_elim (λ (o : IsOneOf w list). stays w (key_eq key (key_of w)) refl (h.all w o)) (λ (e : w ≡ z). updates (key_of w) ∙ ap (λ (t : Bool). cond t true (contains key_eq old (key_of w))) (same w e)) (push_cases w z list m);
  none_else = λ w m. by w (key_eq key (key_of w)) refl (sym (updates (key_of w)) ∙ m);
})
  where
    same : (w : Option Item) → w ≡ z → key_eq key (key_of w) ≡ true
    same w e = ap (λ (k : Key). key_eq k (key_of w)) (is ∙ ap key_of (sym e)) ∙ itself (key_of w)

    stays : (w : Option Item) (t : Bool) → key_eq key (key_of w) ≡ t → contains key_eq old (key_of w) ≡ true → contains key_eq set (key_of w) ≡ true
    stays w true e c = updates (key_of w) ∙ ap (λ (t : Bool). cond t true (contains key_eq old (key_of w))) e
    stays w false e c = updates (key_of w) ∙ ap (λ (t : Bool). cond t true (contains key_eq old (key_of w))) e ∙ c

    by : (w : Option Item) (t : Bool) → key_eq key (key_of w) ≡ t → cond (key_eq key (key_of w)) true (contains key_eq old (key_of w)) ≡ true → IsOneOf w (list ++ z ∷ [])
    by w true e c = subst (λ (y : Option Item). IsOneOf y (list ++ z ∷ [])) (one_source z w (alike (key_of z) (key_of w) (ap (λ (k : Key). key_eq k (key_of w)) (sym is) ∙ e))) (pushed z list)
    by w false e c = one_left w list (z ∷ []) (h.none_else w (sym (ap (λ (t : Bool). cond t true (contains key_eq old (key_of w))) e) ∙ c))

pub kept_there : {S : Type 0} (list view : List (Option Item)) (set : HashSet Key S) (z : Option Item) (key : Key) (t : Bool) → key ≡ key_of z → AreKept list set → list ≡ view → t ≡ contains key_eq set key → t ≡ true → IsOneOf z view
kept_there {S} list view set z key t is h e c there = subst (IsOneOf z) e (h.none_else z (ap (contains key_eq set) (sym is) ∙ sym c ∙ there))

pub kept_none : {S : Type 0} (list view : List (Option Item)) (set : HashSet Key S) (z : Option Item) (key : Key) (t : Bool) → key ≡ key_of z → AreKept list set → list ≡ view → t ≡ contains key_eq set key → t ≡ false → IsOneOf z view → ⊥
kept_none {S} list view set z key t is h e c none m = true≢false (sym (sym (ap (contains key_eq set) (sym is)) ∙ h.all z (subst (IsOneOf z) (sym e) m)) ∙ sym c ∙ none)

-- ---- what is kept for items

module _ {A S : Type 0} where
  pub got : (entries : List (Key × A)) (map : HashMap Key A S) (key : Key) (item : Item) (o : Option A) → key ≡ key_of (Some item) → map.entries ≡ entries → o ≡ get key_eq map key → o ≡ kept_of A entries item
  got entries map key item o is e h = h ∙ ap (λ (k : Key). lookup (key_eq k) map.entries) is ∙ ap (lookup (key_eq (key_of (Some item)))) e

  pub put_is : (old new : HashMap Key A S) (view : List (Key × A)) (item : Item) (value : A) (key : Key) → key ≡ key_of (Some item) → old.entries ≡ view
      → ((q : Key) → get key_eq new q ≡ cond (key_eq key q) (Some value) (get key_eq old q)) → IsPut item value (kept_of A view) (kept_of A new.entries)
  put_is old new view item value key is e updates = record {
    here = updates (key_of (Some item)) ∙ ap (λ (t : Bool). cond t (Some value) (get key_eq old (key_of (Some item)))) (ap (λ (k : Key). key_eq k (key_of (Some item))) is ∙ itself (key_of (Some item)));
    others = λ y. by y (key_eq key (key_of (Some y))) refl;
  }
    where
      item_same : (x y : Item) → Some x ≡ Some y → y ≡ x
      item_same x y e = cc

      by : (y : Item) (t : Bool) → key_eq key (key_of (Some y)) ≡ t → (y ≡ item) ⊎ (kept_of A new.entries y ≡ kept_of A view y)
      by y true h = inl (item_same item y (one_source (Some item) (Some y) (alike (key_of (Some item)) (key_of (Some y)) (ap (λ (k : Key). key_eq k (key_of (Some y))) (sym is) ∙ h))))
      by y false h = inr (updates (key_of (Some y)) ∙ ap (λ (t : Bool). cond t (Some value) (get key_eq old (key_of (Some y)))) h ∙ ap (lookup (key_eq (key_of (Some y)))) e)
