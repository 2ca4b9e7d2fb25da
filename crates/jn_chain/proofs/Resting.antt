-- What is known of items.
use Rattle.std.proofs.Common.{◌≡◌, ◌⊎◌, ⊎_elim, ℕ, ◌-◌, ◌≤◌, List, [], ◌∷◌, Option, Some, None, refl, sym, ap, ◌∙◌, subst, arith}
use Rattle.jn_reasons_law.specs.declared.item.Item.{Item}
use Rattle.jn_chain.specs.declared.chains.Rest.{Rest}
use Rattle.jn_chain.specs.Keys.{Key, rest_of, IsPut}
use Rattle.jn_chain.specs.Search.{Ground, Reaches, rest_left, left_of, AreRests, IsRest, IsKept}

abbrev Source : Type 0
Source = Option Item

some_nat : (a b : ℕ) → Some a ≡ Some b → a ≡ b
some_nat a b e = cc

none_some : (b : ℕ) → None ≡ Some b → ⊥
none_some b e = cc

-- where it is known how many are left from an item, there is a rest
pub some_rest : (K : Item → Option Rest) (x : Item) (l : ℕ) → left_of K (Some x) ≡ Some l → (r : Rest) × (K x ≡ Some r) × (r.left ≡ l)
some_rest K x l e = by (K x) refl e
  where
    by : (o : Option Rest) → K x ≡ o → rest_left o ≡ Some l → (r : Rest) × (K x ≡ Some r) × (r.left ≡ l)
    by None k f = absurd (none_some l f)
    by (Some r) k f = (r, k, some_nat r.left l f)

-- at first nothing is known
pub none_known : (entries : List (Key × Rest)) → entries ≡ [] → (G : Ground) → AreRests G (rest_of entries)
none_known [] e G x rest h = absurd (none h)
  where
    none : None ≡ Some rest → ⊥
    none f = cc
none_known (y ∷ ys) e G x rest h = absurd (cons e)
  where
    cons : y ∷ ys ≡ [] → ⊥
    cons f = cc

module _ (G : Ground) (K : Item → Option Rest) (R : AreRests G K) where
  pub left_reaches : (z : Source) (l : ℕ) → left_of K z ≡ Some l → Reaches G l z
  left_reaches None l e = subst (λ (k : ℕ). Reaches G k None) (some_nat 0 l e) refl
  left_reaches (Some x) l e = let r = some_rest K x l e in subst (λ (k : ℕ). Reaches G k (Some x)) r.2 (R x r.0 r.1).reaches

  pub left_least : (z : Source) (l m : ℕ) → left_of K z ≡ Some l → Reaches G m z → l ≤ m
  left_least None l m e h = let n = some_nat 0 l e in omega (arith, n)
  left_least (Some x) l m e h = let r = some_rest K x l e in let n = (R x r.0 r.1).shortest m h in let i = r.2 in omega (arith, n, i)

-- what is known stays so where more is known
pub raised : (G : Ground) (old new : Item → Option Rest) → IsKept old new → (x : Item) (rest : Rest) → IsRest G old x rest → IsRest G new x rest
raised G old new keeps x rest h = record {
  some = h.some;
  next = h.next;
  behind = keeps rest.cause.source (rest.left - 1) h.behind;
  reaches = h.reaches;
  shortest = h.shortest;
  least = h.least;
}

same_rest : (r q : Rest) → Some r ≡ Some q → q ≡ r
same_rest r q e = cc

-- one more is known
module _ (G : Ground) (old new : Item → Option Rest) (x : Item) (rest : Rest) (R : AreRests G old) (h : IsRest G old x rest) (put : IsPut x rest old new) where
  pub put_keeps : IsKept old new
  put_keeps None n e = e
  put_keeps (Some y) n e = ⊎_elim
      (λ (same : y ≡ x).
      let here : left_of old (Some x) ≡ Some n = subst (λ (v : Item). left_of old (Some v) ≡ Some n) same e in
      let low = left_least G old R (Some x) n rest.left here h.reaches in
      let high = h.shortest n (left_reaches G old R (Some x) n here) in
      let is : rest.left ≡ n = omega (arith, low, high) in
      ap (λ (v : Item). rest_left (new v)) same ∙ ap rest_left put.here ∙ ap Some is)
      (λ (stays : new y ≡ old y). ap rest_left stays ∙ e)
      (put.others y)

  pub put_rests : AreRests G new
  put_rests y r e = ⊎_elim
      (λ (same : y ≡ x).
      let is : r ≡ rest = same_rest rest r (sym put.here ∙ ap new (sym same) ∙ e) in
      subst (λ (v : Item). IsRest G new v r) (sym same) (subst (IsRest G new x) (sym is) (raised G old new put_keeps x rest h)))
      (λ (stays : new y ≡ old y). raised G old new put_keeps y r (R y r (sym stays ∙ e)))
      (put.others y)

  pub put_left : left_of new (Some x) ≡ Some rest.left
  put_left = ap rest_left put.here
