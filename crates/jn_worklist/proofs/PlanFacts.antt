-- Who reads a word, and the bits of bodies.
use Rattle.std.proofs.Common.{◌≡◌, ◌≢◌, ◌⊎◌, ◌↔◌, ℕ, zero, suc, ◌+◌, ◌/◌, ◌<◌, ◌≤◌, cond, Bool, true, false, List, [], ◌∷◌, length, map, filter, take, get_or, sym, refl, ap, ◌∙◌, subst, inl, inr, ⊎_elim, arith, true≢false, add-one}
use mathlib.Core.Logic.{dite}
use mathlib.Core.Option.{some}
use lib.ListN.{get_elem?}
use native.Mathlib.Decide.{ℕ_discrete}
use Rattle.std.specs.List.{range_with_len}
use Rattle.std.proofs.lemmas.List.FromFn.{get_or-map-range_with_len, length-map-range_with_len}
use Rattle.jn_base.specs.declared.number.BodyNo.{BodyNo}
use Rattle.jn_sigtable.specs.System.{System}
use Rattle.jn_sigtable.specs.Machine.{dirty_words}
use Rattle.jn_worklist.specs.Plans.{body_no, readers_of, plan_of, Lists, IsDue}

pub entry_at : {A : Type 0} (l : List A) (i : ℕ) (d : A) → i < length l → get_elem? l i ≡ some (get_or l i d)
entry_at [] i d h = absurd (omega arith)
entry_at (x ∷ xs) zero d h = refl
entry_at (x ∷ xs) (suc i) d h = entry_at xs i d (omega arith)

module _ (p : BodyNo → Bool) where
  pub lists_only : (a n x : ℕ) → Lists (filter p (map body_no (range_with_len a n))) x → (x < a + n) × (p (body_no x) ≡ true)
  lists_only a zero x h = absurd h
  lists_only a (suc n) x h = go (p (body_no a)) refl h (lists_only (a + 1) n x)
    where
      go : (t : Bool) → p (body_no a) ≡ t → Lists (cond t (body_no a ∷ filter p (map body_no (range_with_len (a + 1) n))) (filter p (map body_no (range_with_len (a + 1) n)))) x
          → (Lists (filter p (map body_no (range_with_len (a + 1) n))) x → (x < a + 1 + n) × (p (body_no x) ≡ true)) → (x < a + suc n) × (p (body_no x) ≡ true)
      go true e h rest = ⊎_elim (λ (s : a ≡ x). (omega arith, ap (λ (y : ℕ). p (body_no y)) (sym s) ∙ e)) (λ r. let q = rest r in (let b = q.0 in omega arith, q.1)) h
      go false e h rest = let q = rest h in (let b = q.0 in omega arith, q.1)

  pub lists_all : (a n x : ℕ) → a ≤ x → x < a + n → p (body_no x) ≡ true → Lists (filter p (map body_no (range_with_len a n))) x
  lists_all a zero x low high e = absurd (omega arith)
  lists_all a (suc n) x low high e = go (p (body_no a)) refl (λ far. lists_all (a + 1) n x (omega arith) (omega arith) e)
    where
      go : (t : Bool) → p (body_no a) ≡ t → ((a ≢ x) → Lists (filter p (map body_no (range_with_len (a + 1) n))) x)
          → Lists (cond t (body_no a ∷ filter p (map body_no (range_with_len (a + 1) n))) (filter p (map body_no (range_with_len (a + 1) n)))) x
      go true here rest = dite (ℕ_discrete a x) (λ s. inl s) (λ ne. inr (rest ne))
      go false here rest = rest (λ s. absurd (true≢false (sym e ∙ (ap (λ (y : ℕ). p (body_no y)) (sym s) ∙ here))))

module _ (sys : System) (plan : List (List BodyNo)) (is : plan ≡ plan_of sys) where
  pub plan_length : length plan ≡ sys.words
  plan_length = ap (λ (l : List (List BodyNo)). length l) is ∙ length-map-range_with_len (readers_of sys) 0 sys.words

  pub readers_are : (w : ℕ) → w < sys.words → get_or plan w [] ≡ readers_of sys w
  readers_are w less = ap (λ (l : List (List BodyNo)). get_or l w []) is ∙ get_or-map-range_with_len (readers_of sys) 0 sys.words w w [] less (omega arith)

  module _ (w : ℕ) (less : w < sys.words) (readers : List BodyNo) (at : readers ≡ get_or plan w []) where
    listed : (x : ℕ) → Lists readers x ↔ ((x < sys.bodies) × (sys.reads x w ≡ true))
    listed x =
        let e : readers ≡ readers_of sys w = at ∙ readers_are w less in (
          (λ h. let q = lists_only (λ b. sys.reads b.0 w) 0 sys.bodies x (subst (λ (l : List BodyNo). Lists l x) e h) in (let z = q.0 in omega arith, q.1)),
          (λ h. subst (λ (l : List BodyNo). Lists l x) (sym e) (lists_all (λ b. sys.reads b.0 w) 0 sys.bodies x (omega arith) (let q = h.0 in omega arith) h.1)),
        )

    -- there is room for the bits of the readers
    pub readers_fit : (n : ℕ) → n ≡ dirty_words sys → (x : ℕ) → Lists readers x → x / 64 < n
    readers_fit n e x h = let q = ((listed x).0 h).0 in omega arith

    pub readers_due : (before after : List ℕ) → ((x : ℕ) → IsDue after x ↔ (IsDue before x ⊎ Lists readers x))
        → (x : ℕ) → IsDue after x ↔ (IsDue before x ⊎ ((x < sys.bodies) × (sys.reads x w ≡ true)))
    readers_due before after f x = (
      (λ h. ⊎_elim (λ l. inl l) (λ r. inr ((listed x).0 r)) ((f x).0 h)),
      (λ h. (f x).1 (⊎_elim (λ l. inl l) (λ r. inr ((listed x).1 r)) h)),
    )

-- the first bodies of a list, and one more
lists_step : (bs : List BodyNo) (i : ℕ) (b : BodyNo) (x : ℕ) → i < length bs → b ≡ get_or bs i b → Lists (take (suc i) bs) x ↔ (Lists (take i bs) x ⊎ (x ≡ b.0))
lists_step [] i b x h e = absurd (omega arith)
lists_step (y ∷ bs) zero b x h e = ((λ l. ⊎_elim (λ s. inr (sym s ∙ ap (λ (z : BodyNo). z.0) (sym e))) (λ n. absurd n) l), (λ r. ⊎_elim (λ n. absurd n) (λ s. inl (ap (λ (z : BodyNo). z.0) (sym e) ∙ sym s)) r))
lists_step (y ∷ bs) (suc i) b x h e =
    let rest = lists_step bs i b x (omega arith) e in (
      (λ l. ⊎_elim (λ s. inl (inl s)) (λ r. ⊎_elim (λ q. inl (inr q)) (λ q. inr q) (rest.0 r)) l),
      (λ r. ⊎_elim (λ l. ⊎_elim (λ s. inl s) (λ q. inr (rest.1 (inl q))) l) (λ q. inr (rest.1 (inr q))) r),
    )

pub lists_more : (bs : List BodyNo) (i : ℕ) (b : BodyNo) (x : ℕ) → i < length bs → b ≡ get_or bs i b → Lists (take (i + 1) bs) x ↔ (Lists (take i bs) x ⊎ (x ≡ b.0))
lists_more bs i b x h e = subst (λ (k : ℕ). Lists (take k bs) x ↔ (Lists (take i bs) x ⊎ (x ≡ b.0))) (sym (add-one i)) (lists_step bs i b x h e)

-- one body more of a list is due
pub due_more : (bs : List BodyNo) (i : ℕ) (b : BodyNo) (first before after : List ℕ) → i < length bs → b ≡ get_or bs i b
    → ((x : ℕ) → IsDue before x ↔ (IsDue first x ⊎ Lists (take i bs) x)) → ((x : ℕ) → IsDue after x ↔ (IsDue before x ⊎ (x ≡ b.0)))
    → (x : ℕ) → IsDue after x ↔ (IsDue first x ⊎ Lists (take (i + 1) bs) x)
due_more bs i b first before after h e was is x =
    let m = lists_more bs i b x h e in (
      (λ due. ⊎_elim (λ d. ⊎_elim (λ f. inl f) (λ l. inr (m.1 (inl l))) ((was x).0 d)) (λ s. inr (m.1 (inr s))) ((is x).0 due)),
      (λ due. (is x).1 (⊎_elim (λ f. inl ((was x).1 (inl f))) (λ l. ⊎_elim (λ q. inl ((was x).1 (inr q))) (λ s. inr s) (m.0 l)) due)),
    )

pub lists_here : (bs : List BodyNo) (i : ℕ) (b : BodyNo) → i < length bs → b ≡ get_or bs i b → Lists bs b.0
lists_here [] i b h e = absurd (omega arith)
lists_here (y ∷ bs) zero b h e = inl (ap (λ (z : BodyNo). z.0) (sym e))
lists_here (y ∷ bs) (suc i) b h e = inr (lists_here bs i b (omega arith) e)
