-- A set of bits that has the causes of each of its bits, and no end, has no bit with a chain; and there is at most one first chain.
use Rattle.std.proofs.Common.{◌≡◌, ℕ, zero, suc, Bool, true, false, ◌&&◌, ◌||◌, ⊎_elim, List, [], ◌∷◌, length, Some, None, refl, sym, ap, ◌∙◌, subst, arith}
use Rattle.std.specs.Prelude.{eqb, ltb}
use Rattle.std.proofs.lemmas.Bool.{eq-eqb, lt-ltb, cases_lt}
use Rattle.jn_quals.specs.Qualifier.{Qualifier}
use Rattle.jn_points.specs.declared.program.Program.{Program}
use Rattle.jn_env.specs.Order.{Table}
use Rattle.jn_reasons_law.specs.declared.item.Bit.{Bit}
use Rattle.jn_reasons_law.specs.declared.item.Bit.TheVariants.{Nullable, Committed, Free}
use Rattle.jn_reasons_law.specs.declared.item.Item.{Item}
use Rattle.jn_reasons_law.specs.declared.item.Item.TheVariants.{AtSlot, AtRegister}
use Rattle.jn_reasons_law.specs.declared.item.Place.{Place}
use Rattle.jn_reasons_law.specs.declared.item.Place.TheVariants.{OfSlot, OfMethod, OfBody, OfPoint}
use Rattle.jn_reasons_law.specs.declared.item.Step.{Step}
use Rattle.jn_reasons_law.specs.Items.{Stands}
use Rattle.jn_reasons_law.specs.Chains.{IsCause, IsChain, HasChain}
use Rattle.jn_reasons_law.specs.Choice.{bit_no, item_list, place_numbers, item_numbers, step_numbers, is_before, is_same, comes_before, IsFirstChain}
use Rattle.jn_reasons_law.proofs.Bits.{never}

module _ (P : Program) (s : List Qualifier) (tables : List Table) where
  pub stands_first : (x : Step) (xs : List Step) → IsChain P s tables (x ∷ xs) → Stands s tables x.item
  stands_first x [] c = c.0
  stands_first x (y ∷ ys) c = c.0

module _ (P : Program) (s : List Qualifier) (tables : List Table) (V : Item → Bool) where
  module _ (closed : (x y : Item) (p : Place) → V x ≡ true → IsCause P s tables x p (Some y) → Stands s tables y → V y ≡ true) (endless : (x : Item) (p : Place) → V x ≡ true → IsCause P s tables x p None → ⊥) where
    no_chain : (x : Step) (xs : List Step) → V x.item ≡ true → IsChain P s tables (x ∷ xs) → ⊥
    no_chain x [] v c = endless x.item x.place v c.1
    no_chain x (y ∷ ys) v c = no_chain y ys (closed x.item y.item x.place v c.1 (stands_first P s tables y ys c.2)) c.2

    pub no_end : (x : Item) → V x ≡ true → HasChain P s tables x → ⊥
    no_end x v h = no_chain (record { item = x; place = h.place }) h.more v h.chain

-- numbers tell steps apart
bit_from : ℕ → Bit
bit_from zero = Nullable
bit_from (suc zero) = Committed
bit_from (suc (suc n)) = Free

item_from : ℕ → ℕ → ℕ → ℕ → ℕ → Item
item_from zero a b c d = AtSlot a (bit_from d)
item_from (suc n) a b c d = AtRegister a b c (bit_from d)

place_from : ℕ → ℕ → ℕ → Place
place_from zero a b = OfSlot a
place_from (suc zero) a b = OfMethod a
place_from (suc (suc zero)) a b = OfBody a
place_from (suc (suc (suc n))) a b = OfPoint a b

abbrev at : ℕ → List ℕ → ℕ
at n [] = 0
at zero (x ∷ xs) = x
at (suc n) (x ∷ xs) = at n xs

abbrev step_from : List ℕ → Step
step_from xs = record { item = item_from (at 0 xs) (at 1 xs) (at 2 xs) (at 3 xs) (at 4 xs); place = place_from (at 5 xs) (at 6 xs) (at 7 xs) }

bit_back : (bit : Bit) → bit_from (bit_no bit) ≡ bit
unfolding bit_from
bit_back Nullable = refl
bit_back Committed = refl
bit_back Free = refl

item_back : (i : Item) → item_from (item_numbers i).0 (item_numbers i).1 (item_numbers i).2 (item_numbers i).3 (item_numbers i).4 ≡ i
unfolding item_from
item_back (AtSlot k bit) = ap (AtSlot k) (bit_back bit)
item_back (AtRegister b p r bit) = ap (AtRegister b p r) (bit_back bit)

place_back : (p : Place) → place_from (place_numbers p).0 (place_numbers p).1 (place_numbers p).2 ≡ p
unfolding place_from
place_back (OfSlot k) = refl
place_back (OfMethod m) = refl
place_back (OfBody b) = refl
place_back (OfPoint b p) = refl

pub same_item : (x y : Item) → item_list x ≡ item_list y → x ≡ y
same_item x y e = sym (item_back x) ∙ ap (λ (xs : List ℕ). item_from (at 0 xs) (at 1 xs) (at 2 xs) (at 3 xs) (at 4 xs)) e ∙ item_back y

step_back : (x : Step) → step_from (step_numbers x) ≡ x
step_back x j = record { item = item_back x.item j; place = place_back x.place j }

same_step : (x y : Step) → step_numbers x ≡ step_numbers y → x ≡ y
same_step x y e = sym (step_back x) ∙ ap step_from e ∙ step_back y

-- neither of two lists of one length is before the other only where they are the same
or_false : (a b : Bool) → (a || b) ≡ false → (a ≡ false) × (b ≡ false)
or_false true b h = absurd (never (sym h))
or_false false b h = (refl, h)

and_false : (a b : Bool) → a ≡ true → (a && b) ≡ false → b ≡ false
and_false true b e h = h
and_false false b e h = absurd (never e)

same_number : (x y : ℕ) → ltb x y ≡ false → ltb y x ≡ false → x ≡ y
same_number x y f g = ⊎_elim
    (λ lt. absurd (never (sym f ∙ lt-ltb x y lt)))
    (λ le. ⊎_elim (λ lt. absurd (never (sym g ∙ lt-ltb y x lt))) (λ ge. omega (arith, le, ge)) (cases_lt y x))
    (cases_lt x y)

same_numbers : (xs ys : List ℕ) → length xs ≡ length ys → is_before xs ys ≡ false → is_before ys xs ≡ false → xs ≡ ys
same_numbers [] [] l f g = refl
same_numbers [] (y ∷ ys) l f g = absurd (omega (arith, l))
same_numbers (x ∷ xs) [] l f g = absurd (omega (arith, l))
same_numbers (x ∷ xs) (y ∷ ys) l f g =
    let a = or_false (ltb x y) (eqb x y && is_before xs ys) f in
    let b = or_false (ltb y x) (eqb y x && is_before ys xs) g in
    let e = same_number x y a.0 b.0 in
    let rest = same_numbers xs ys (omega (arith, l)) (and_false (eqb x y) (is_before xs ys) (eq-eqb x y e) a.1) (and_false (eqb y x) (is_before ys xs) (eq-eqb y x (sym e)) b.1) in
    (λ j. e j ∷ rest j)

is_same_self : (xs : List ℕ) → is_same xs xs ≡ true
is_same_self [] = eq-eqb 0 0 refl
is_same_self (x ∷ xs) = both (eqb x x) (is_same xs xs) (eq-eqb x x refl) (is_same_self xs)
  where
    both : (a b : Bool) → a ≡ true → b ≡ true → (a && b) ≡ true
    both true b e f = f
    both false b e f = e

same_steps : (xs ys : List Step) → length xs ≡ length ys → comes_before xs ys ≡ false → comes_before ys xs ≡ false → xs ≡ ys
same_steps [] [] l f g = refl
same_steps [] (y ∷ ys) l f g = absurd (omega (arith, l))
same_steps (x ∷ xs) [] l f g = absurd (omega (arith, l))
same_steps (x ∷ xs) (y ∷ ys) l f g =
    let a = or_false (is_before (step_numbers x) (step_numbers y)) (is_same (step_numbers x) (step_numbers y) && comes_before xs ys) f in
    let b = or_false (is_before (step_numbers y) (step_numbers x)) (is_same (step_numbers y) (step_numbers x) && comes_before ys xs) g in
    let n = same_numbers (step_numbers x) (step_numbers y) refl a.0 b.0 in
    let e = same_step x y n in
    let t : is_same (step_numbers x) (step_numbers y) ≡ true = subst (λ ns. is_same (step_numbers x) ns ≡ true) n (is_same_self (step_numbers x)) in
    let u : is_same (step_numbers y) (step_numbers x) ≡ true = subst (λ ns. is_same (step_numbers y) ns ≡ true) (sym n) (is_same_self (step_numbers y)) in
    let rest = same_steps xs ys (omega (arith, l)) (and_false (is_same (step_numbers x) (step_numbers y)) (comes_before xs ys) t a.1) (and_false (is_same (step_numbers y) (step_numbers x)) (comes_before ys xs) u b.1) in
    (λ j. e j ∷ rest j)

pub one_first : (P : Program) (s : List Qualifier) (tables : List Table) (x : Item) (a b : List Step) → IsFirstChain P s tables x a → IsFirstChain P s tables x b → a ≡ b
one_first P s tables x a b ia ib =
    let le = ia.shortest b ib.begins ib.chain in
    let ge = ib.shortest a ia.begins ia.chain in
    let l : length a ≡ length b = omega (arith, le, ge) in
    same_steps a b l (ib.first a ia.begins ia.chain l) (ia.first b ib.begins ib.chain (sym l))
