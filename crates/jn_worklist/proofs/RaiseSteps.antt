-- How a raise changes what is known of a body.
use Rattle.std.proofs.Common.{◌≡◌, ◌≢◌, ◌⊎◌, ◌↔◌, ℕ, zero, suc, ◌+◌, ◌/◌, ◌%◌, ◌<◌, ◌==◌, not, Bool, true, false, if◌then◌else◌, Option, Some, List, [], ◌∷◌, ◌++◌, length, set, take, bit_or, bit_and, sym, refl, ap, ◌∙◌, subst, inl, inr, ⊎_elim, arith, true≢false, get_or-set_same, get_or-set_other, eq-eqb, add-one}
use mathlib.Core.Option.{some, some-injective, some-ne-none}
use mathlib.Core.Logic.{dite}
use native.Mathlib.Decide.{ℕ_discrete}
use lib.ListN.{get_elem?}
use Rattle.std.specs.Prelude.{slice_index}
use Rattle.std.specs.Int.{bit_at}
use Rattle.std.proofs.lemmas.Bool.{eqb-true}
use Rattle.std.proofs.lemmas.Nat.Bits.{bit_at-lt, bit_at_or}
use Rattle.std.specs.List.{range_with_len}
use Rattle.jn_sigtable.specs.declared.view.View.{View}
use Rattle.jn_base.specs.declared.number.WordNo.{WordNo}
use Rattle.jn_sigtable.specs.System.{System, Within, bits_for}
use Rattle.jn_sigtable.specs.Machine.{Has, HasReadAll, after_raise, bodies_where, one_at, all_but, dirty_words, described}
use Rattle.jn_sigtable.proofs.Bits.{within_refl, within_trans, within_or_l, within_or_r, or_within, zero_within, one_same, one_other, cleared_same, cleared_other, masked_zero, place_below, same_number}
use Rattle.jn_sigtable.proofs.Keeping.{has_left, has_right, has_either, filter_has, bodies_have}
use Rattle.jn_worklist.specs.Plans.{IsDue}
use Rattle.jn_worklist.specs.Runs.{IsRaising, RaisedOwn}

range_below : (a n x : ℕ) → Has (range_with_len a n) x → x < a + n
range_below a zero x h = absurd h
range_below a (suc n) x h = ⊎_elim (λ e. omega arith) (λ r. let p = range_below (a + 1) n x r in omega arith) h

-- ---- one bit more
bit_in : (n b i : ℕ) → bit_at (bit_or n (one_at (b % 64))) (i % 64) ≡ 1 → i % 64 ≢ b % 64 → bit_at n (i % 64) ≡ 1
bit_in n b i is ne = let p = bit_at_or n (one_at (b % 64)) (i % 64) in let q = one_other b (i % 64) ne in omega arith

module _ (due : List ℕ) (b n : ℕ) (inside : b / 64 < length due) (is : n ≡ slice_index due (b / 64)) where
  more : List ℕ
  more = set due (b / 64) (bit_or n (one_at (b % 64)))

  pub bit_set : (x : ℕ) → IsDue (set due (b / 64) (bit_or n (one_at (b % 64)))) x ↔ (IsDue due x ⊎ (x ≡ b))
  bit_set x = dite (ℕ_discrete (x / 64) (b / 64)) (λ s. here x s) (λ ne. there x ne)
    where
      there : (x : ℕ) → x / 64 ≢ b / 64 → IsDue (set due (b / 64) (bit_or n (one_at (b % 64)))) x ↔ (IsDue due x ⊎ (x ≡ b))
      there x ne =
          let e : slice_index (set due (b / 64) (bit_or n (one_at (b % 64)))) (x / 64) ≡ slice_index due (x / 64) = get_or-set_other due (b / 64) (x / 64) (bit_or n (one_at (b % 64))) 0 ne in
          ((λ h. inl (ap (λ (y : ℕ). bit_at y (x % 64)) (sym e) ∙ h)), (λ h. ⊎_elim (λ d. ap (λ (y : ℕ). bit_at y (x % 64)) e ∙ d) (λ s. absurd (ne (ap (λ (y : ℕ). y / 64) s))) h))

      here : (x : ℕ) → x / 64 ≡ b / 64 → IsDue (set due (b / 64) (bit_or n (one_at (b % 64)))) x ↔ (IsDue due x ⊎ (x ≡ b))
      here x s =
          let m : ℕ = bit_or n (one_at (b % 64)) in
          let e : slice_index (set due (b / 64) m) (x / 64) ≡ m = ap (λ (y : ℕ). slice_index (set due (b / 64) m) y) s ∙ get_or-set_same due (b / 64) m 0 inside in
          let f : slice_index due (x / 64) ≡ n = ap (λ (y : ℕ). slice_index due y) s ∙ sym is in (
            (λ h. let k : bit_at m (x % 64) ≡ 1 = ap (λ (y : ℕ). bit_at y (x % 64)) (sym e) ∙ h in
                dite (ℕ_discrete (x % 64) (b % 64)) (λ r. inr (same_number x b s r)) (λ ne. inl (ap (λ (y : ℕ). bit_at y (x % 64)) f ∙ bit_in n b x k ne))),
            (λ h. ap (λ (y : ℕ). bit_at y (x % 64)) e ∙ ⊎_elim
                (λ d. let p : bit_at n (x % 64) ≡ 1 = ap (λ (y : ℕ). bit_at y (x % 64)) (sym f) ∙ d in let q = bit_at_or n (one_at (b % 64)) (x % 64) in let r = bit_at-lt (one_at (b % 64)) (x % 64) in omega arith)
                (λ r. let q = bit_at_or n (one_at (b % 64)) (x % 64) in let o : bit_at (one_at (b % 64)) (x % 64) ≡ 1 = ap (λ (y : ℕ). bit_at (one_at (b % 64)) (y % 64)) r ∙ one_same b in let l = bit_at-lt n (x % 64) in omega arith)
                h),
          )

-- ---- one bit less
module _ (due : List ℕ) (b : ℕ) (inside : b / 64 < length due) where
  bit_left : (x : ℕ) → x ≢ b → IsDue (set due (b / 64) (bit_and (slice_index due (b / 64)) (all_but (b % 64)))) x ↔ IsDue due x
  bit_left x apart =
      let n : ℕ = bit_and (slice_index due (b / 64)) (all_but (b % 64)) in
      dite (ℕ_discrete (x / 64) (b / 64))
      (λ same.
      let place : x % 64 ≢ b % 64 = λ e. apart (same_number x b same e) in
      let here : slice_index (set due (b / 64) n) (x / 64) ≡ n = ap (slice_index (set due (b / 64) n)) same ∙ get_or-set_same due (b / 64) n 0 inside in
      let e : bit_at (slice_index (set due (b / 64) n) (x / 64)) (x % 64) ≡ bit_at (slice_index due (x / 64)) (x % 64) =
      ap (λ (y : ℕ). bit_at y (x % 64)) here ∙ (cleared_other (slice_index due (b / 64)) b (x % 64) (place_below x) place ∙ ap (λ (y : ℕ). bit_at (slice_index due y) (x % 64)) (sym same)) in
      ((λ is. sym e ∙ is), (λ is. e ∙ is)))
      (λ ne.
      let e : bit_at (slice_index (set due (b / 64) n) (x / 64)) (x % 64) ≡ bit_at (slice_index due (x / 64)) (x % 64) = ap (λ (y : ℕ). bit_at y (x % 64)) (get_or-set_other due (b / 64) (x / 64) n 0 ne) in
      ((λ is. sym e ∙ is), (λ is. e ∙ is)))

  bit_gone : IsDue (set due (b / 64) (bit_and (slice_index due (b / 64)) (all_but (b % 64)))) b → ⊥
  bit_gone is =
      let n : ℕ = bit_and (slice_index due (b / 64)) (all_but (b % 64)) in
      let here : slice_index (set due (b / 64) n) (b / 64) ≡ n = get_or-set_same due (b / 64) n 0 inside in
      let z = cleared_same (slice_index due (b / 64)) b in
      let one : bit_at n (b % 64) ≡ 1 = ap (λ (y : ℕ). bit_at y (b % 64)) (sym here) ∙ is in
      absurd (omega arith)

  pub bit_cleared : (x : ℕ) → IsDue (set due (b / 64) (bit_and (slice_index due (b / 64)) (all_but (b % 64)))) x ↔ (IsDue due x × (x ≢ b))
  bit_cleared x = dite (ℕ_discrete x b)
      (λ e. ((λ is. absurd (bit_gone (subst (λ (y : ℕ). IsDue (set due (b / 64) (bit_and (slice_index due (b / 64)) (all_but (b % 64)))) y) e is))), (λ p. absurd (p.1 e))))
      (λ ne. ((λ is. ((bit_left x ne).0 is, ne)), (λ p. (bit_left x ne).1 p.0)))

not_due : (due : List ℕ) (b : ℕ) → bit_and (slice_index due (b / 64)) (one_at (b % 64)) ≡ 0 → IsDue due b → ⊥
not_due due b e is = let z = masked_zero (slice_index due (b / 64)) b e in absurd (omega arith)

pub not_taken : (due : List ℕ) (b : ℕ) → not (bit_and (slice_index due (b / 64)) (one_at (b % 64)) == 0) ≡ false → IsDue due b → ⊥
not_taken due b e = not_due due b (eqb-true (bit_and (slice_index due (b / 64)) (one_at (b % 64))) 0 (was (bit_and (slice_index due (b / 64)) (one_at (b % 64)) == 0) e))
  where
    was : (t : Bool) → not t ≡ false → t ≡ true
    was true h = refl
    was false h = absurd (true≢false h)

-- ---- outputs
pub snoc_within : (xs : List (WordNo × ℕ)) (o : WordNo × ℕ) (u z : ℕ) → Within (bits_for xs u) z → ((o.0.0 ≡ u) → Within o.1 z) → Within (bits_for (xs ++ o ∷ []) u) z
snoc_within [] o u z h f = go (o.0.0 == u) refl
  where
    go : (t : Bool) → (o.0.0 == u) ≡ t → Within (if t then bit_or o.1 0 else 0) z
    go true e = or_within o.1 0 z (f (eqb-true o.0.0 u e)) (zero_within z)
    go false e = zero_within z
snoc_within (x ∷ xs) o u z h f = go (x.0.0 == u) refl h (λ k. snoc_within xs o u z k f)
  where
    go : (t : Bool) → (x.0.0 == u) ≡ t → Within (if t then bit_or x.1 (bits_for xs u) else bits_for xs u) z → (Within (bits_for xs u) z → Within (bits_for (xs ++ o ∷ []) u) z) → Within (if t then bit_or x.1 (bits_for (xs ++ o ∷ []) u) else bits_for (xs ++ o ∷ []) u) z
    go true e h rec = or_within x.1 (bits_for (xs ++ o ∷ []) u) z (within_trans x.1 (bit_or x.1 (bits_for xs u)) z (within_or_l x.1 (bits_for xs u)) h) (rec (within_trans (bits_for xs u) (bit_or x.1 (bits_for xs u)) z (within_or_r x.1 (bits_for xs u)) h))
    go false e h rec = rec h

pub entry_within : (os : List (WordNo × ℕ)) (i : ℕ) (o : WordNo × ℕ) → get_elem? os i ≡ some o → Within o.1 (bits_for os o.0.0)
entry_within [] i o e = absurd (some-ne-none o (sym e))
entry_within (x ∷ xs) zero o e = subst (λ (y : WordNo × ℕ). Within y.1 (bits_for (x ∷ xs) y.0.0)) (some-injective x o e) (go (x.0.0 == x.0.0) (eq_self x.0.0))
  where
    eq_self : (n : ℕ) → (n == n) ≡ true
    eq_self n = eq-eqb n n refl

    go : (t : Bool) → t ≡ true → Within x.1 (if t then bit_or x.1 (bits_for xs x.0.0) else bits_for xs x.0.0)
    go true e = within_or_l x.1 (bits_for xs x.0.0)
    go false e = absurd (true≢false (sym e))
entry_within (x ∷ xs) (suc i) o e = go (x.0.0 == o.0.0) (entry_within xs i o e)
  where
    go : (t : Bool) → Within o.1 (bits_for xs o.0.0) → Within o.1 (if t then bit_or x.1 (bits_for xs o.0.0) else bits_for xs o.0.0)
    go true h = within_trans o.1 (bits_for xs o.0.0) (bit_or x.1 (bits_for xs o.0.0)) h (within_or_r x.1 (bits_for xs o.0.0))
    go false h = h

pub take_more : (os : List (WordNo × ℕ)) (i : ℕ) (o : WordNo × ℕ) → get_elem? os i ≡ some o → take (suc i) os ≡ take i os ++ o ∷ []
take_more [] i o e = absurd (some-ne-none o (sym e))
take_more (x ∷ xs) zero o e = ap (λ (y : WordNo × ℕ). y ∷ []) (some-injective x o e)
take_more (x ∷ xs) (suc i) o e = ap (λ (l : List (WordNo × ℕ)). x ∷ l) (take_more xs i o e)

pub take_whole : (os : List (WordNo × ℕ)) (n : ℕ) → n ≡ length os → take n os ≡ os
take_whole [] zero e = refl
take_whole [] (suc n) e = absurd (omega arith)
take_whole (x ∷ xs) zero e = absurd (omega arith)
take_whole (x ∷ xs) (suc n) e = ap (λ (l : List (WordNo × ℕ)). x ∷ l) (take_whole xs n (omega arith))

module _ {C : Type 0} (describe : C → System) (it : C) where
  -- the readers of a word whose bit was new are due too
  pub raises_on : (b : ℕ) (from : View (Option C)) (values : List ℕ) (v w : View (Option C)) (os : List (WordNo × ℕ)) (i n : ℕ) (o : WordNo × ℕ) (due after : List ℕ)
      → v.system ≡ Some it → IsRaising (describe it) b from values v os i due → get_elem? os i ≡ some o → w ≡ after_raise (described describe) v o.0.0 o.1 n
      → length after ≡ dirty_words (describe it)
      → ((bit_or n o.1 == n) ≡ true → after ≡ due)
      → ((bit_or n o.1 == n) ≡ false → (x : ℕ) → IsDue after x ↔ (IsDue due x ⊎ ((x < (describe it).bodies) × ((describe it).reads x o.0.0 ≡ true))))
      → IsRaising (describe it) b from values w os (i + 1) after
  raises_on b from values v w os i n o due after same h at e size old new =
      let sys : System = describe it in
      let p : (t : Bool) → (bit_or n o.1 == n) ≡ t → (x : ℕ) → Has (if t then v.owed else (v.owed ++ bodies_where (described describe v.system) (λ y. (described describe v.system).reads y o.0.0))) x ↔ IsDue after x =
      elim [
        | true ↦ λ is x. subst (λ (l : List ℕ). Has v.owed x ↔ IsDue l x) (sym (old is)) (h.owes x)
        | false ↦ λ is x. (
          (λ has. (new is x).1 (⊎_elim (λ l. inl ((h.owes x).0 l)) (λ r. inr (reader (described describe v.system) sys o.0.0 x (ap (described describe) same) r)) (has_either v.owed _ x has))),
          (λ due'. ⊎_elim (λ l. has_left v.owed _ x ((h.owes x).1 l)) (λ r. has_right v.owed _ x (subst (λ (y : System). Has (bodies_where y (λ z. y.reads z o.0.0)) x) (sym (ap (described describe) same)) (bodies_have sys (λ z. sys.reads z o.0.0) x r.0 r.1))) ((new is x).0 due')),
        )
      ] in
      let later : RaisedOwn sys v b → RaisedOwn sys (after_raise (described describe) v o.0.0 o.1 n) b = λ r. (r.0, inr r.1, r.2) in
      let mine : (t : Bool) → (bit_or n o.1 == n) ≡ t → IsDue after b → RaisedOwn sys (after_raise (described describe) v o.0.0 o.1 n) b =
      elim [
        | true ↦ λ is due'. later (h.own (subst (λ (l : List ℕ). IsDue l b) (old is) due'))
        | false ↦ λ is due'. ⊎_elim (λ l. later (h.own l)) (λ r. (o.0.0, inl refl, r.1)) ((new is b).0 due')
      ] in
      record {
        body = ap (λ (x : View (Option C)). x.body) e ∙ h.body;
        same_share = ap (λ (x : View (Option C)). x.share) e ∙ h.same_share;
        same_taken = ap (λ (x : View (Option C)). x.taken) e ∙ h.same_taken;
        are = ap (λ (x : View (Option C)). x.values) e ∙ h.are;
        read = subst (λ (x : View (Option C)). HasReadAll sys x b) (sym e) h.read;
        raised = λ u. subst (λ (x : View (Option C)). Within (bits_for (take (i + 1) os) u) (bits_for x.raised u)) (sym e)
            (subst (λ (l : List (WordNo × ℕ)). Within (bits_for l u) (bits_for (o ∷ v.raised) u)) (sym (plus_one os i o at))
            (snoc_within (take i os) o u (bits_for (o ∷ v.raised) u) (within_trans _ (bits_for v.raised u) _ (h.raised u) (tail_within o v.raised u)) (λ s. head_within o v.raised u s)));
        count = size;
        owes = λ x. subst (λ (y : View (Option C)). Has y.owed x ↔ IsDue after x) (sym e) (p (bit_or n o.1 == n) refl x);
        own = λ is. subst (λ (y : View (Option C)). RaisedOwn sys y b) (sym e) (mine (bit_or n o.1 == n) refl is);
      }
    where
      reader : (y sys : System) (word x : ℕ) → y ≡ sys → Has (bodies_where y (λ z. y.reads z word)) x → (x < sys.bodies) × (sys.reads x word ≡ true)
      reader y sys word x same h = let f = filter_has (λ z. sys.reads z word) (range_with_len 0 sys.bodies) x (subst (λ (k : System). Has (bodies_where k (λ z. k.reads z word)) x) same h) in let r = range_below 0 sys.bodies x f.0 in (omega arith, f.1)

      plus_one : (os : List (WordNo × ℕ)) (i : ℕ) (o : WordNo × ℕ) → get_elem? os i ≡ some o → take (i + 1) os ≡ take i os ++ o ∷ []
      plus_one os i o at = ap (λ (k : ℕ). take k os) (add-one i) ∙ take_more os i o at

      head_within : (o : WordNo × ℕ) (ys : List (WordNo × ℕ)) (u : ℕ) → o.0.0 ≡ u → Within o.1 (bits_for (o ∷ ys) u)
      head_within o ys u s = subst (λ (t : Bool). Within o.1 (if t then bit_or o.1 (bits_for ys u) else bits_for ys u)) (sym (eq-eqb o.0.0 u s)) (within_or_l o.1 (bits_for ys u))

      tail_within : (o : WordNo × ℕ) (ys : List (WordNo × ℕ)) (u : ℕ) → Within (bits_for ys u) (bits_for (o ∷ ys) u)
      tail_within o ys u = go (o.0.0 == u) o ys u
        where
          go : (t : Bool) (o : WordNo × ℕ) (ys : List (WordNo × ℕ)) (u : ℕ) → Within (bits_for ys u) (if t then bit_or o.1 (bits_for ys u) else bits_for ys u)
          go true o ys u = within_or_r o.1 (bits_for ys u)
          go false o ys u = within_refl (bits_for ys u)
