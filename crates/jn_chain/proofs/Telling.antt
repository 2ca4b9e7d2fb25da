-- What is told of a chain by one step more.
use Rattle.std.proofs.Common.{◌≡◌, ℕ, zero, suc, ◌+◌, ◌-◌, ◌<◌, Bool, true, false, cond, List, [], ◌∷◌, ◌++◌, length, drop, take, refl, sym, ap, ◌∙◌, arith}
use Rattle.std.proofs.lemmas.List.{length-append, length_push}
use Rattle.jn_reasons_law.specs.declared.item.Item.{Item}
use Rattle.jn_reasons_law.specs.declared.item.Item.TheVariants.{AtSlot, AtRegister}
use Rattle.jn_reasons_law.specs.declared.item.Step.{Step}
use Rattle.jn_reasons_law.specs.Choice.{tell, told}
use Rattle.jn_chain.specs.declared.shown.Told.{Told}
use Rattle.jn_chain.specs.Told.{is_slot, shown, told_of}

-- ---- which steps are told

tell_is : (i : Item) (x : Step) (rest : List Step) → tell i x rest ≡ cond (is_slot i) (x ∷ []) [] ++ rest
tell_is (AtSlot k bit) x rest = refl
tell_is (AtRegister b p r bit) x rest = refl

some_told : (x : Step) (xs : List Step) → 0 < length (told (x ∷ xs))
some_told x [] = omega arith
some_told x (y ∷ more) =
    let e = ap length (tell_is x.item x (told (y ∷ more))) in
    let sum = length-append (cond (is_slot x.item) (x ∷ []) []) (told (y ∷ more)) in
    let some = some_told y more in
    omega (arith, e, sum, some)

-- where it is the last one
pub last_told : (x : Step) (n : ℕ) (ends : Bool) → n ≡ 0 → ends ≡ true → (steps : List Step) → n ≡ length (told steps) → told (x ∷ steps) ≡ cond ends (x ∷ []) [] ++ told steps
last_told x n ends z t [] e = ap (λ (b : Bool). cond b (x ∷ []) [] ++ []) (sym t)
last_told x n ends z t (y ∷ more) e = let some = some_told y more in absurd (omega (arith, some, e, z))

-- and where it isn't
pub other_told : (x : Step) (n : ℕ) (slot : Bool) → (n ≡ 0 → ⊥) → slot ≡ is_slot x.item → (steps : List Step) → n ≡ length (told steps) → told (x ∷ steps) ≡ cond slot (x ∷ []) [] ++ told steps
other_told x n slot z s [] e = absurd (z e)
other_told x n slot z s (y ∷ more) e = tell_is x.item x (told (y ∷ more)) ∙ ap (λ (b : Bool). cond b (x ∷ []) [] ++ told (y ∷ more)) (sym s)

-- ---- the first ones and the last

take_front : (f rest : List Step) → take (length f) (f ++ rest) ≡ f
take_front [] rest = refl
take_front (x ∷ f) rest = ap (λ (l : List Step). x ∷ l) (take_front f rest)

drop_front : (f rest : List Step) → drop (length f) (f ++ rest) ≡ rest
drop_front [] rest = refl
drop_front (x ∷ f) rest = drop_front f rest

take_none : (k : ℕ) → ◌≡◌ {A = List Step} (take k []) []
take_none zero = refl
take_none (suc k) = refl

take_fewer : (k : ℕ) (f : List Step) → take k (take (suc k) f) ≡ take k f
take_fewer zero f = refl
take_fewer (suc k) [] = refl
take_fewer (suc k) (x ∷ f) = ap (λ (l : List Step). x ∷ l) (take_fewer k f)

take_with : (k : ℕ) (x : Step) (f : List Step) → take k (x ∷ take k f) ≡ take k (x ∷ f)
take_with zero x f = refl
take_with (suc k) x f = ap (λ (l : List Step). x ∷ l) (take_fewer k f)

abbrev front_of : List Step → List Step
front_of [] = []
front_of (x ∷ []) = []
front_of (x ∷ y ∷ more) = x ∷ front_of (y ∷ more)

abbrev end_of : Step → List Step → Step
end_of x [] = x
end_of x (y ∷ more) = end_of y more

ends : (x : Step) (xs : List Step) → x ∷ xs ≡ front_of (x ∷ xs) ++ end_of x xs ∷ []
ends x [] = refl
ends x (y ∷ more) = ap (λ (l : List Step). x ∷ l) (ends y more)

module _ (most : ℕ) where
  none_shown : shown most [] ≡ []
  none_shown = ap (λ (l : List Step). l ++ []) (take_none (most - 1))

  -- of steps whose last one is at hand
  pub front_shown : (f : List Step) (y : Step) → take (most - 1) (take (length (f ++ y ∷ []) - 1) (f ++ y ∷ [])) ≡ take (most - 1) f
  front_shown f y =
      let long : length (f ++ y ∷ []) - 1 ≡ length f = (let e = length_push f y in omega (arith, e)) in
      ap (take (most - 1)) (ap (λ (n : ℕ). take n (f ++ y ∷ [])) long ∙ take_front f (y ∷ []))

  pub last_shown : (f : List Step) (y : Step) → drop (length (f ++ y ∷ []) - 1) (f ++ y ∷ []) ≡ y ∷ []
  last_shown f y =
      let long : length (f ++ y ∷ []) - 1 ≡ length f = (let e = length_push f y in omega (arith, e)) in
      ap (λ (n : ℕ). drop n (f ++ y ∷ [])) long ∙ drop_front f (y ∷ [])

  all_shown : (f : List Step) (y : Step) → shown most (f ++ y ∷ []) ≡ take (most - 1) f ++ y ∷ []
  all_shown f y = ap (λ (l : List Step). l ++ drop (length (f ++ y ∷ []) - 1) (f ++ y ∷ [])) (front_shown f y) ∙ ap (λ (l : List Step). take (most - 1) f ++ l) (last_shown f y)

  shown_whole : (xs : List Step) (f : List Step) (y : Step) → xs ≡ f ++ y ∷ [] → shown most xs ≡ take (most - 1) f ++ y ∷ []
  shown_whole xs f y e = ap (shown most) e ∙ all_shown f y

  -- one more is shown before those that are
  shown_more : (x : Step) (t : List Step) → shown most (x ∷ shown most t) ≡ shown most (x ∷ t)
  shown_more x [] = ap (λ (l : List Step). shown most (x ∷ l)) none_shown
  shown_more x (v ∷ t) =
      let f = front_of (v ∷ t) in
      let y = end_of v t in
      let k = most - 1 in
      ap (λ (l : List Step). shown most (x ∷ l)) (shown_whole (v ∷ t) f y (ends v t))
      ∙ all_shown (x ∷ take k f) y
      ∙ ap (λ (l : List Step). l ++ y ∷ []) (take_with k x f)
      ∙ sym (all_shown (x ∷ f) y)
      ∙ ap (λ (l : List Step). shown most (x ∷ l)) (sym (ends v t))

  -- ---- no step, and one more

  pub told_nothing : (l : List Step) → l ≡ [] → record { count = 0; shown = l } ≡ told_of most []
  told_nothing l e = λ i. record { count = 0; shown = (e ∙ sym none_shown) i }

  told_same : (a : Told) (n : ℕ) (l : List Step) → a.count ≡ n → a.shown ≡ l → a ≡ record { count = n; shown = l }
  told_same a n l e h = λ i. record { count = e i; shown = h i }

  abbrev IsTold : Step → ℕ → Bool → Type 0
  IsTold x n t = (steps : List Step) → n ≡ length (told steps) → told (x ∷ steps) ≡ cond t (x ∷ []) [] ++ told steps

  pub told_more : (x : Step) (behind new : Told) (t : Bool) → IsTold x behind.count t → t ≡ true → new.count ≡ behind.count + 1 → new.shown ≡ shown most (x ∷ behind.shown)
      → (steps : List Step) → behind ≡ told_of most steps → new ≡ told_of most (x ∷ steps)
  told_more x behind new t is h c l steps e =
      let n : behind.count ≡ length (told steps) = ap (λ (a : Told). a.count) e in
      let whole : told (x ∷ steps) ≡ x ∷ told steps = is steps n ∙ ap (λ (b : Bool). cond b (x ∷ []) [] ++ told steps) h in
      let count : new.count ≡ length (x ∷ told steps) = omega (arith, c, n) in
      told_same new (length (x ∷ told steps)) (shown most (x ∷ told steps)) count
      (l ∙ ap (λ (a : Told). shown most (x ∷ a.shown)) e ∙ shown_more x (told steps))
      ∙ ap (λ (u : List Step). record { count = length u; shown = shown most u }) (sym whole)

  pub told_no_more : (x : Step) (behind new : Told) (t : Bool) → IsTold x behind.count t → t ≡ false → new ≡ behind
      → (steps : List Step) → behind ≡ told_of most steps → new ≡ told_of most (x ∷ steps)
  told_no_more x behind new t is h same steps e =
      let n : behind.count ≡ length (told steps) = ap (λ (a : Told). a.count) e in
      let whole : told (x ∷ steps) ≡ told steps = is steps n ∙ ap (λ (b : Bool). cond b (x ∷ []) [] ++ told steps) h in
      same ∙ e ∙ ap (λ (u : List Step). record { count = length u; shown = shown most u }) (sym whole)
