-- Reachability along edges among the numbers below n: as many steps as there are numbers reach all, and where no number reaches itself edges fall in rank.
use Rattle.std.proofs.Common.{◌≡◌, ◌<◌, ◌≤◌, ℕ, zero, suc, Bool, true, false, not, ◌&&◌, ◌⊎◌, inl, inr, List, refl, sym, ap, ◌∙◌, subst, eqb, arith}
use Rattle.std.proofs.lemmas.Bool.{eqb-true, eq-eqb, or_left, or_right}
use Rattle.jn_points.specs.Members.{some_of}
use Rattle.jn_declaration_rules.specs.Rows.{reach}
use Rattle.jn_declaration_rules.proofs.Tests.{and_true, and_both, or_true, true_or_not, not_both, member, some_member, member_some, count, count_less, count_bound, count_some, count_misses}

abbrev without : (ℕ → Bool) → ℕ → ℕ → Bool
without f c x = f x && not (eqb x c)

without_is : (f : ℕ → Bool) (c x : ℕ) → f x ≡ true → eqb x c ≡ false → without f c x ≡ true
without_is f c x h e = and_both (f x) (not (eqb x c)) h (ap not e)

without_itself : (f : ℕ → Bool) (c : ℕ) → without f c c ≡ false
without_itself f c = by (f c) (eqb c c) (eq-eqb c c refl)
  where
    by : (a b : Bool) → b ≡ true → (a && not b) ≡ false
    by true true e = refl
    by false b e = refl
    by true false e = cc

module _ (next : ℕ → List ℕ) where
  -- a walk of at most so many edges among allowed numbers
  abbrev Walk : (ℕ → Bool) → ℕ → ℕ → ℕ → Type 0
  Walk f zero x d = (f x ≡ true) × (x ≡ d)
  Walk f (suc n) x d = (f x ≡ true) × ((x ≡ d) ⊎ ((s : ℕ) × (member s (next x) ≡ true) × Walk f n s d))

  abbrev Goes : (ℕ → Bool) → ℕ → ℕ → Type 0
  Goes f x d = (n : ℕ) × Walk f n x d

  starts : (f : ℕ → Bool) (n x d : ℕ) → Walk f n x d → f x ≡ true
  starts f zero x d w = w.0
  starts f (suc n) x d w = w.0

  -- what is left after the last visit of c
  abbrev Left : (ℕ → Bool) → ℕ → ℕ → Type 0
  Left f c d = (c ≡ d) ⊎ ((s : ℕ) × (member s (next c) ≡ true) × Goes (without f c) s d)

  ends : (f : ℕ → Bool) (c x d n : ℕ) → f x ≡ true → x ≡ d → Goes (without f c) x d ⊎ Left f c d
  ends f c x d n h e = by (true_or_not (eqb x c))
    where
      by : (eqb x c ≡ true) ⊎ (eqb x c ≡ false) → Goes (without f c) x d ⊎ Left f c d
      by (inl k) = inr (inl (sym (eqb-true x c k) ∙ e))
      by (inr k) = inl (zero, (without_is f c x h k, e))

  last_visit : (f : ℕ → Bool) (c n x d : ℕ) → Walk f n x d → Goes (without f c) x d ⊎ Left f c d
  last_visit f c zero x d w = ends f c x d 0 w.0 w.1
  last_visit f c (suc n) x d w = by w.1 (λ s. last_visit f c n s d)
    where
      passes : (s : ℕ) → member s (next x) ≡ true → Goes (without f c) s d → (eqb x c ≡ true) ⊎ (eqb x c ≡ false) → Goes (without f c) x d ⊎ Left f c d
      passes s m g (inl k) = inr (inr (s, subst (λ z. member s (next z) ≡ true) (eqb-true x c k) m, g))
      passes s m g (inr k) = inl (suc g.0, (without_is f c x w.0 k, inr (s, m, g.1)))

      goes_on : (s : ℕ) → member s (next x) ≡ true → Goes (without f c) s d ⊎ Left f c d → Goes (without f c) x d ⊎ Left f c d
      goes_on s m (inl g) = passes s m g (true_or_not (eqb x c))
      goes_on s m (inr l) = inr l

      by : (x ≡ d) ⊎ ((s : ℕ) × (member s (next x) ≡ true) × Walk f n s d) → ((s : ℕ) → Walk f n s d → Goes (without f c) s d ⊎ Left f c d) → Goes (without f c) x d ⊎ Left f c d
      by (inl e) rest = ends f c x d n w.0 e
      by (inr s) rest = goes_on s.0 s.1 (rest s.0 s.2)

  reach_self : (n c d : ℕ) → c ≡ d → reach next n c d ≡ true
  reach_self zero c d e = eq-eqb c d e
  reach_self (suc n) c d e = or_left (eqb c d) (some_of (λ s. reach next n s d) (next c)) (eq-eqb c d e)

  pub reach_by : (n c s d : ℕ) → member s (next c) ≡ true → reach next n s d ≡ true → reach next (suc n) c d ≡ true
  reach_by n c s d m h = or_right (eqb c d) (some_of (λ s. reach next n s d) (next c)) (member_some (λ s. reach next n s d) (next c) s m h)

  walks : (n x d : ℕ) → reach next n x d ≡ true → Walk (λ z. true) n x d
  walks zero x d h = (refl, eqb-true x d h)
  walks (suc n) x d h = (refl, by (or_true (eqb x d) (some_of (λ s. reach next n s d) (next x)) h) (λ s. walks n s d))
    where
      by : (eqb x d ≡ true) ⊎ (some_of (λ s. reach next n s d) (next x) ≡ true) → ((s : ℕ) → reach next n s d ≡ true → Walk (λ z. true) n s d) → (x ≡ d) ⊎ ((s : ℕ) × (member s (next x) ≡ true) × Walk (λ z. true) n s d)
      by (inl e) rest = inl (eqb-true x d e)
      by (inr e) rest = let s = some_member (λ s. reach next n s d) (next x) e in inr (s.0, s.1, rest s.0 s.2)

  module _ (size : ℕ) (inside : (c s : ℕ) → member s (next c) ≡ true → s < size) where
    -- as many edges as there are other numbers are enough
    drops : (f : ℕ → Bool) (x d : ℕ) → x < size → Goes f x d → count (without f x) size < count f size
    drops f x d l g = count_less (without f x) f size x (λ z h. (and_true (f z) (not (eqb z x)) h).0) l (without_itself f x) (starts f g.0 x d g.1)

    never : (f : ℕ → Bool) (x d : ℕ) → Goes (without f x) x d → ⊥
    never f x d g = not_both (without f x x) (starts (without f x) g.0 x d g.1) (without_itself f x)

    shorten : (j : ℕ) (f : ℕ → Bool) (x d : ℕ) → count f size ≤ suc j → x < size → Goes f x d → reach next j x d ≡ true
    shorten zero f x d few l g = by (last_visit f x g.0 x d g.1)
      where
        by : Goes (without f x) x d ⊎ Left f x d → reach next 0 x d ≡ true
        by (inl w) = absurd (never f x d w)
        by (inr (inl e)) = reach_self 0 x d e
        by (inr (inr s)) =
            let some : 0 < count (without f x) size = count_some (without f x) size s.0 (inside x s.0 s.1) (starts (without f x) s.2.0 s.0 d s.2.1) in
            absurd (let k : count (without f x) size < count f size = drops f x d l g in omega arith)
    shorten (suc j) f x d few l g = by (last_visit f x g.0 x d g.1) (λ s. shorten j (without f x) s d)
      where
        by : Goes (without f x) x d ⊎ Left f x d → ((s : ℕ) → count (without f x) size ≤ suc j → s < size → Goes (without f x) s d → reach next j s d ≡ true) → reach next (suc j) x d ≡ true
        by (inl w) rest = absurd (never f x d w)
        by (inr (inl e)) rest = reach_self (suc j) x d e
        by (inr (inr s)) rest =
            let k : count (without f x) size < count f size = drops f x d l g in
            reach_by j x s.0 d s.1 (rest s.0 (omega arith) (inside x s.0 s.1) s.2)

    -- what is reached at all is reached in so many steps
    pub enough : (n j x d : ℕ) → size ≤ suc j → x < size → reach next n x d ≡ true → reach next j x d ≡ true
    enough n j x d few l h =
        let b : count (λ z. true) size ≤ size = count_bound (λ z. true) size in
        shorten j (λ z. true) x d (omega arith) l (n, walks n x d h)

    -- d stands above c
    abbrev pub above : ℕ → ℕ → Bool
    above c d = some_of (λ s. reach next size s d) (next c)

    abbrev pub rank : ℕ → ℕ
    rank c = count (above c) size

    above_more : (c s d : ℕ) → member s (next c) ≡ true → above s d ≡ true → above c d ≡ true
    above_more c s d m h =
        let t = some_member (λ t. reach next size t d) (next s) h in
        member_some (λ s. reach next size s d) (next c) s m (enough (suc size) size s d (omega arith) (inside c s m) (reach_by size s t.0 d t.1 t.2))

    module _ (no_circle : (c : ℕ) → above c c ≡ false) where
      pub rank_falls : (c s : ℕ) → member s (next c) ≡ true → rank s < rank c
      rank_falls c s m = count_less (above s) (above c) size s (λ d. above_more c s d m) (inside c s m) (no_circle s) (member_some (λ t. reach next size t s) (next c) s m (reach_self size s s refl))

      pub rank_few : (c : ℕ) → c < size → rank c < size
      rank_few c l = count_misses (above c) size c l (no_circle c)
