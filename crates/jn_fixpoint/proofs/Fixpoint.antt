-- Whole rounds of a climbing step end, and in the least fixpoint above their start.
use Rattle.std.proofs.Common.{◌≡◌, ℕ, zero, suc, ◌+◌, ◌-◌, ◌≤◌, ◌<◌, ◌⊎◌, inl, inr, ⊎_elim, refl, sym, ap, ◌∙◌, subst, arith}
use Rattle.std.proofs.lemmas.Bool.{cases_lt}
use Rattle.jn_fixpoint.specs.Climb.{rounds, IsLeastFixpoint, Climb, Bounds, Monotone}

module _ {A : Type 0} (step : A → A) where
  rounds_stay : (n : ℕ) (a : A) → step a ≡ a → rounds step n a ≡ a
  rounds_stay zero a s = refl
  rounds_stay (suc n) a s = ap step (rounds_stay n a s) ∙ s

  rounds_more : (n m : ℕ) (a : A) → rounds step (n + m) a ≡ rounds step n (rounds step m a)
  rounds_more zero m a = let e : 0 + m ≡ m = omega arith in ap (λ k. rounds step k a) e
  rounds_more (suc n) m a = let e : suc n + m ≡ suc (n + m) = omega arith in ap (λ k. rounds step k a) e ∙ ap step (rounds_more n m a)

  later_same : (m n : ℕ) (a : A) → m ≤ n → step (rounds step m a) ≡ rounds step m a → rounds step n a ≡ rounds step m a
  later_same m n a le s =
      let e : n ≡ (n - m) + m = omega arith in
      ap (λ k. rounds step k a) e ∙ rounds_more (n - m) m a ∙ rounds_stay (n - m) (rounds step m a) s

  made_stable : (start x : A) (is : IsLeastFixpoint step start x) → step (rounds step is.turns start) ≡ rounds step is.turns start
  made_stable start x is = subst (λ y. step y ≡ y) is.made is.stable

  -- there is one least fixpoint above a start
  pub unique : (start x y : A) → IsLeastFixpoint step start x → IsLeastFixpoint step start y → x ≡ y
  unique start x y is js =
      ⊎_elim
      (λ lt. is.made ∙ sym (later_same is.turns js.turns start (omega (arith, lt)) (made_stable start x is)) ∙ sym js.made)
      (λ le. is.made ∙ later_same js.turns is.turns start le (made_stable start y js) ∙ sym js.made)
      (cases_lt is.turns js.turns)

module _ {A : Type 0} (Valid : A → Type 0) (Within : A → A → Type 0) (weight : A → ℕ) (top : ℕ) (step : A → A) (climb : Climb Valid Within weight top step) where
  -- a round that makes nothing heavier changes nothing
  pub settled : (a : A) → Valid a → weight (step a) ≤ weight a → step a ≡ a
  settled a v le = sym (climb.equal a (step a) (climb.climbs a v) le)

  pub rounds_valid : (n : ℕ) (start : A) → Valid start → Valid (rounds step n start)
  rounds_valid zero start v = v
  rounds_valid (suc n) start v = climb.kept (rounds step n start) (rounds_valid n start v)

  pub rounds_above : (n : ℕ) (start : A) → Valid start → Within start (rounds step n start)
  rounds_above zero start v = climb.self start
  rounds_above (suc n) start v = climb.chain start (rounds step n start) (rounds step (suc n) start) (rounds_above n start v) (climb.climbs (rounds step n start) (rounds_valid n start v))

  pub rounds_below : (n : ℕ) (start y : A) → Valid start → Within start y → Bounds Valid Within step y → Within (rounds step n start) y
  rounds_below zero start y v w h = w
  rounds_below (suc n) start y v w h = h (rounds step n start) (rounds_valid n start v) (rounds_below n start y v w h)

  -- before the rounds end, each made something heavier
  ends_or_heavy : (n : ℕ) (start : A) → Valid start → (step (rounds step n start) ≡ rounds step n start) ⊎ (n ≤ weight (rounds step n start))
  ends_or_heavy zero start v = inr (omega arith)
  ends_or_heavy (suc n) start v = ⊎_elim (λ s. inl (ap step s)) (λ le. more le (cases_lt (weight (rounds step n start)) (weight (rounds step (suc n) start)))) (ends_or_heavy n start v)
    where
      more : n ≤ weight (rounds step n start) → (weight (rounds step n start) < weight (rounds step (suc n) start)) ⊎ (weight (rounds step (suc n) start) ≤ weight (rounds step n start)) → (step (rounds step (suc n) start) ≡ rounds step (suc n) start) ⊎ (suc n ≤ weight (rounds step (suc n) start))
      more le (inl lt) = inr (omega (arith, le, lt))
      more le (inr s) = inl (ap step (settled (rounds step n start) (rounds_valid n start v) s))

  pub stable_at_top : (start : A) → Valid start → step (rounds step top start) ≡ rounds step top start
  stable_at_top start v =
      ⊎_elim
      (λ s. s)
      (λ le. settled (rounds step top start) (rounds_valid top start v) (let b = climb.bounded (rounds step (suc top) start) (rounds_valid (suc top) start v) in omega (arith, le, b)))
      (ends_or_heavy top start v)

  -- so there is a least fixpoint, after at most top rounds
  pub exists : (start : A) → Valid start → IsLeastFixpoint step start (rounds step top start)
  exists start v = record { turns = top; made = refl; stable = stable_at_top start v }

  pub valid : (start x : A) → Valid start → IsLeastFixpoint step start x → Valid x
  valid start x v is = subst (λ a. Valid a) (sym is.made) (rounds_valid is.turns start v)

  pub above : (start x : A) → Valid start → IsLeastFixpoint step start x → Within start x
  above start x v is = subst (λ a. Within start a) (sym is.made) (rounds_above is.turns start v)

  -- it is within each y above the start that rounds do not leave
  pub below : (start x y : A) → Valid start → IsLeastFixpoint step start x → Within start y → Bounds Valid Within step y → Within x y
  below start x y v is w h = subst (λ a. Within a y) (sym is.made) (rounds_below is.turns start y v w h)

  pub least : (start x y : A) → Monotone Valid Within step → Valid start → Valid y → IsLeastFixpoint step start x → Within start y → Within (step y) y → Within x y
  least start x y m v vy is w s = below start x y v is w (λ a va wa. climb.chain (step a) (step y) y (m a y va vy wa) s)
