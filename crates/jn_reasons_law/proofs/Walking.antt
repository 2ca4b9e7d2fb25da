-- A chain that goes the least way at each step, and is a shortest one, is the first; and a search by levels bounds the length of chains.
use Rattle.std.proofs.Common.{◌≡◌, ℕ, ◌+◌, ◌<◌, ◌≤◌, Bool, true, false, ◌&&◌, ◌||◌, ⊎_elim, List, [], ◌∷◌, ◌++◌, length, Some, None, refl, sym, ap, ◌∙◌, subst, arith}
use Rattle.std.specs.Prelude.{eqb, ltb}
use Rattle.std.proofs.lemmas.Bool.{and_parts, cases_lt, or_parts, eqb-true, eq-eqb, ltb-true}
use Rattle.jn_quals.specs.Qualifier.{Qualifier}
use Rattle.jn_points.specs.declared.program.Program.{Program}
use Rattle.jn_env.specs.Order.{Table}
use Rattle.jn_reasons_law.specs.declared.item.Item.{Item}
use Rattle.jn_reasons_law.specs.declared.item.Place.{Place}
use Rattle.jn_reasons_law.specs.declared.item.Step.{Step}
use Rattle.jn_reasons_law.specs.Items.{Stands}
use Rattle.jn_reasons_law.specs.Chains.{IsCause, IsChain}
use Rattle.jn_reasons_law.specs.Choice.{BeginsAt, IsFirstChain, comes_before, is_before, is_same, item_list, place_list, step_numbers}
use Rattle.jn_reasons_law.specs.Walk.{IsWalk}
use Rattle.jn_reasons_law.proofs.Bits.{never}
use Rattle.jn_reasons_law.proofs.Searching.{same_item, stands_first}

-- lists of numbers, one part after the other
none_below : (n : ℕ) → ltb n n ≡ false
none_below n = by (ltb n n) refl
  where
    by : (t : Bool) → ltb n n ≡ t → t ≡ false
    by true e = let h = ltb-true n n e in absurd (omega (arith, h))
    by false e = refl

-- after equal fronts the rest decides
same_front : (n : ℕ) (xs ys : List ℕ) → is_before (n ∷ xs) (n ∷ ys) ≡ is_before xs ys
same_front n xs ys = ap (λ (t : Bool). t || (eqb n n && is_before xs ys)) (none_below n) ∙ ap (λ (t : Bool). t && is_before xs ys) (eq-eqb n n refl)

same_part : (a xs ys : List ℕ) → is_before (a ++ xs) (a ++ ys) ≡ is_before xs ys
same_part [] xs ys = refl
same_part (n ∷ a) xs ys = same_front n (a ++ xs) (a ++ ys) ∙ same_part a xs ys

-- lists of one length
abbrev SameLength : List ℕ → List ℕ → Type 0
SameLength xs ys = length xs ≡ length ys

either_false : (a b : Bool) → a ≡ false → b ≡ false → (a || b) ≡ false
either_false true b e f = absurd (never (sym e))
either_false false b e f = f

and_if : (a b : Bool) → (a ≡ true → b ≡ false) → (a && b) ≡ false
and_if true b f = f refl
and_if false b f = refl

-- of two lists that begin with parts of one length, the parts decide, and where these are the same, the rests
parts_before : (a c xs ys : List ℕ) → SameLength a c → is_before a c ≡ false → (is_same a c ≡ true → is_before xs ys ≡ false) → is_before (a ++ xs) (c ++ ys) ≡ false
parts_before [] [] xs ys l f g = g (eq-eqb 0 0 refl)
parts_before [] (n ∷ c) xs ys l f g = absurd (omega (arith, l))
parts_before (m ∷ a) [] xs ys l f g = absurd (omega (arith, l))
parts_before (m ∷ a) (n ∷ c) xs ys l f g =
    let h = or_parts (ltb m n) (eqb m n && is_before a c) f in
    either_false (ltb m n) (eqb m n && is_before (a ++ xs) (c ++ ys)) h.0
    (and_if (eqb m n) (is_before (a ++ xs) (c ++ ys)) (λ e.
    parts_before a c xs ys (omega (arith, l)) (subst (λ (t : Bool). (t && is_before a c) ≡ false) e h.1) (λ k. g (subst (λ (t : Bool). (t && is_same a c) ≡ true) (sym e) k))))

front_before : (a c xs ys : List ℕ) → SameLength a c → is_before (a ++ xs) (c ++ ys) ≡ false → is_before a c ≡ false
front_before [] c xs ys l f = refl
front_before (m ∷ a) [] xs ys l f = refl
front_before (m ∷ a) (n ∷ c) xs ys l f =
    let h = or_parts (ltb m n) (eqb m n && is_before (a ++ xs) (c ++ ys)) f in
    either_false (ltb m n) (eqb m n && is_before a c) h.0
    (and_if (eqb m n) (is_before a c) (λ e. front_before a c xs ys (omega (arith, l)) (subst (λ (t : Bool). (t && is_before (a ++ xs) (c ++ ys)) ≡ false) e h.1)))

rest_before : (a c xs ys : List ℕ) → is_same a c ≡ true → is_before (a ++ xs) (c ++ ys) ≡ false → is_before xs ys ≡ false
rest_before [] [] xs ys s f = f
rest_before [] (n ∷ c) xs ys s f = absurd (never s)
rest_before (m ∷ a) [] xs ys s f = absurd (never s)
rest_before (m ∷ a) (n ∷ c) xs ys s f =
    let t = and_parts (eqb m n) (is_same a c) s in
    let h = or_parts (ltb m n) (eqb m n && is_before (a ++ xs) (c ++ ys)) f in
    rest_before a c xs ys t.1 (subst (λ (u : Bool). (u && is_before (a ++ xs) (c ++ ys)) ≡ false) t.0 h.1)

-- parts of lists that are the same are the same
same_left : (a c xs ys : List ℕ) → SameLength a c → is_same (a ++ xs) (c ++ ys) ≡ true → is_same a c ≡ true
same_left [] [] xs ys l s = eq-eqb 0 0 refl
same_left [] (n ∷ c) xs ys l s = absurd (omega (arith, l))
same_left (m ∷ a) [] xs ys l s = absurd (omega (arith, l))
same_left (m ∷ a) (n ∷ c) xs ys l s =
    let t = and_parts (eqb m n) (is_same (a ++ xs) (c ++ ys)) s in
    subst (λ (u : Bool). (u && is_same a c) ≡ true) (sym t.0) (same_left a c xs ys (omega (arith, l)) t.1)

same_right : (a c xs ys : List ℕ) → SameLength a c → is_same (a ++ xs) (c ++ ys) ≡ true → is_same xs ys ≡ true
same_right [] [] xs ys l s = s
same_right [] (n ∷ c) xs ys l s = absurd (omega (arith, l))
same_right (m ∷ a) [] xs ys l s = absurd (omega (arith, l))
same_right (m ∷ a) (n ∷ c) xs ys l s = same_right a c xs ys (omega (arith, l)) (and_parts (eqb m n) (is_same (a ++ xs) (c ++ ys)) s).1

same_list : (xs ys : List ℕ) → is_same xs ys ≡ true → xs ≡ ys
same_list [] [] s = refl
same_list [] (y ∷ ys) s = absurd (never s)
same_list (x ∷ xs) [] s = absurd (never s)
same_list (x ∷ xs) (y ∷ ys) s =
    let t = and_parts (eqb x y) (is_same xs ys) s in
    let e = eqb-true x y t.0 in
    let r = same_list xs ys t.1 in
    (λ j. e j ∷ r j)

module _ (P : Program) (s : List Qualifier) (tables : List Table) where
  -- of one item, the place decides
  of_item : (o x : Step) → o.item ≡ x.item → is_before (place_list o.place) (place_list x.place) ≡ false → is_before (step_numbers o) (step_numbers x) ≡ false
  of_item o x e f =
      ap (λ (y : Item). is_before (item_list y ++ place_list o.place) (item_list x.item ++ place_list x.place)) e
      ∙ same_part (item_list x.item) (place_list o.place) (place_list x.place) ∙ f

  -- of items of which neither is the same, the items decide
  of_items : (o x : Step) (os xs : List Step) → is_before (item_list o.item) (item_list x.item) ≡ false → (is_same (item_list o.item) (item_list x.item) ≡ true → comes_before (o ∷ os) (x ∷ xs) ≡ false) → comes_before (o ∷ os) (x ∷ xs) ≡ false
  of_items o x os xs f g = by (is_same (item_list o.item) (item_list x.item)) refl
    where
      by : (t : Bool) → is_same (item_list o.item) (item_list x.item) ≡ t → comes_before (o ∷ os) (x ∷ xs) ≡ false
      by true e = g e
      by false e = either_false (is_before (step_numbers o) (step_numbers x)) (is_same (step_numbers o) (step_numbers x) && comes_before os xs)
          (parts_before (item_list o.item) (item_list x.item) (place_list o.place) (place_list x.place) refl f (λ k. absurd (never (sym e ∙ k))))
          (and_if (is_same (step_numbers o) (step_numbers x)) (comes_before os xs) (λ k. absurd (never (sym e ∙ same_left (item_list o.item) (item_list x.item) (place_list o.place) (place_list x.place) refl k))))

  walk_first : (steps others : List Step) (x : Item) → BeginsAt x steps → BeginsAt x others → IsWalk P s tables steps → IsChain P s tables others → length others ≡ length steps → comes_before others steps ≡ false
  walk_first [] others x b c w k l = absurd w
  walk_first (y ∷ ys) [] x b c w k l = absurd k
  walk_first (y ∷ []) (o ∷ []) x b c w k l =
      let f = w.2 o.place (subst (λ (i : Item). IsCause P s tables i o.place None) (c ∙ sym b) k.1) in
      either_false (is_before (step_numbers o) (step_numbers y)) (is_same (step_numbers o) (step_numbers y) && false) (of_item o y (c ∙ sym b) f) (and_if (is_same (step_numbers o) (step_numbers y)) false (λ e. refl))
  walk_first (y ∷ []) (o ∷ q ∷ os) x b c w k l = absurd (omega (arith, l))
  walk_first (y ∷ z ∷ ys) (o ∷ []) x b c w k l = absurd (omega (arith, l))
  walk_first (y ∷ z ∷ ys) (o ∷ q ∷ os) x b c w k l =
      let way = w.2 o.place q.item (subst (λ (i : Item). IsCause P s tables i o.place (Some q.item)) (c ∙ sym b) k.1) (record { steps = q ∷ os; begins = refl; chain = k.2; long = omega (arith, l) }) in
      let places = front_before (place_list o.place) (place_list y.place) (item_list q.item) (item_list z.item) refl way in
      either_false (is_before (step_numbers o) (step_numbers y)) (is_same (step_numbers o) (step_numbers y) && comes_before (q ∷ os) (z ∷ ys))
      (of_item o y (c ∙ sym b) places)
      (and_if (is_same (step_numbers o) (step_numbers y)) (comes_before (q ∷ os) (z ∷ ys)) (λ e.
      let same = same_right (item_list o.item) (item_list y.item) (place_list o.place) (place_list y.place) refl e in
      of_items q z os ys (rest_before (place_list o.place) (place_list y.place) (item_list q.item) (item_list z.item) same way)
      (λ i. walk_first (z ∷ ys) (q ∷ os) z.item refl (same_item q.item z.item (same_list (item_list q.item) (item_list z.item) i)) w.3 k.2 (omega (arith, l)))))

  walk_chain : (steps : List Step) → IsWalk P s tables steps → IsChain P s tables steps
  walk_chain [] w = absurd w
  walk_chain (x ∷ []) w = (w.0, w.1)
  walk_chain (x ∷ y ∷ more) w = (w.0, w.1, walk_chain (y ∷ more) w.3)

  pub walk_is_first : (x : Item) (steps : List Step) → BeginsAt x steps → IsWalk P s tables steps → ((others : List Step) → BeginsAt x others → IsChain P s tables others → length steps ≤ length others) → IsFirstChain P s tables x steps
  walk_is_first x steps b w shortest = record {
    begins = b;
    chain = walk_chain steps w;
    shortest = shortest;
    first = λ others c k l. walk_first steps others x b c w k l;
  }

  -- where a level has the causes of the level before, and no item of the first n has its bit from the text, chains are longer
  module _ (V : ℕ → Item → Bool) (n : ℕ) (closed : (m : ℕ) (x y : Item) (p : Place) → m < n → V m x ≡ true → IsCause P s tables x p (Some y) → Stands s tables y → V (m + 1) y ≡ true) (endless : (m : ℕ) (x : Item) (p : Place) → m < n → V m x ≡ true → IsCause P s tables x p None → ⊥) where
    further : (m : ℕ) (x : Step) (xs : List Step) → V m x.item ≡ true → IsChain P s tables (x ∷ xs) → n < m + length (x ∷ xs)
    further m x [] v c = ⊎_elim (λ (lt : m < n). absurd (endless m x.item x.place lt v c.1)) (λ (le : n ≤ m). omega (arith, le)) (cases_lt m n)
    further m x (y ∷ ys) v c = ⊎_elim
        (λ (lt : m < n). let h = further (m + 1) y ys (closed m x.item y.item x.place lt v c.1 (stands_first P s tables y ys c.2)) c.2 in omega (arith, h))
        (λ (le : n ≤ m). omega (arith, le))
        (cases_lt m n)

    pub levels_bound : (x : Item) (steps : List Step) → V 0 x ≡ true → BeginsAt x steps → IsChain P s tables steps → n < length steps
    levels_bound x [] v b c = absurd c
    levels_bound x (y ∷ ys) v b c = let h = further 0 y ys (subst (λ (i : Item). V 0 i ≡ true) (sym b) v) c in omega (arith, h)
