-- A node that is added keeps the trees that were there.
use Rattle.std.proofs.Common.{◌≡◌, ◌<◌, ◌≤◌, ◌+◌, ℕ, zero, suc, Bool, true, false, cond, ◌⊎◌, inl, inr, List, [], ◌∷◌, ◌++◌, length, Option, Some, None, refl, sym, ap, ◌∙◌, subst, eqb, arith}
use Rattle.std.specs.Prelude.{slice_index_or, ◌/◌, ◌%◌}
use Rattle.std.proofs.lemmas.Bool.{eqb-true, eq-eqb}
use Rattle.jn_member_tables.specs.declared.nodes.Node.{Node}
use Rattle.jn_points.specs.Members.{first_or}
use Rattle.jn_member_tables.specs.Numbers.{contains}
use Rattle.jn_member_tables.proofs.Found.{first_or_none}
use Rattle.jn_member_tables.specs.Nodes.{no_node, node_at, side, is_odd, find, keys, Closed, Grown, IsPut, IsMerged, with_side, with_value}

length_more : (xs : List Node) (x : Node) → length (xs ++ x ∷ []) ≡ suc (length xs)
length_more [] x = refl
length_more (y ∷ xs) x = ap suc (length_more xs x)

node_kept : (xs : List Node) (x : Node) (n : ℕ) → n < length xs → node_at (xs ++ x ∷ []) n ≡ node_at xs n
node_kept [] x n lt = absurd (omega (arith, lt))
node_kept (y ∷ xs) x zero lt = refl
node_kept (y ∷ xs) x (suc n) lt = node_kept xs x n (omega (arith, lt))

node_last : (xs : List Node) (x : Node) → node_at (xs ++ x ∷ []) (length xs) ≡ x
node_last [] x = refl
node_last (y ∷ xs) x = node_last xs x

pub side_there : (xs : List Node) (n : ℕ) (right : Bool) → Closed xs → n < length xs → side right (node_at xs n) < length xs
side_there xs n right closed lt = closed.sides n right lt

find_kept : (xs : List Node) (x : Node) → Closed xs → (h n k : ℕ) → n < length xs → find (xs ++ x ∷ []) h n k ≡ find xs h n k
find_kept xs x closed zero n k lt = ap (λ (y : Node). y.value) (node_kept xs x n lt)
find_kept xs x closed (suc h) n k lt =
    ap (λ (y : Node). find (xs ++ x ∷ []) h (side (is_odd k) y) (k / 2)) (node_kept xs x n lt)
    ∙ find_kept xs x closed h (side (is_odd k) (node_at xs n)) (k / 2) (closed.sides n (is_odd k) lt)

-- a node is added whose sides are there
grown_more : (xs : List Node) (x : Node) → ((right : Bool) → side right x < length xs) → Closed xs → Grown xs (xs ++ x ∷ []) (length xs)
grown_more xs x inside closed = record {
  closed = record {
    some = omega (arith, long, closed.some);
    empty = node_kept xs x 0 closed.some ∙ closed.empty;
    sides = sides;
  };
  inside = omega (arith, long);
  longer = omega (arith, long);
  kept = find_kept xs x closed;
}
  where
    long : length (xs ++ x ∷ []) ≡ suc (length xs)
    long = length_more xs x

    sides : (n : ℕ) (right : Bool) → n < length (xs ++ x ∷ []) → side right (node_at (xs ++ x ∷ []) n) < length (xs ++ x ∷ [])
    sides n right lt = by (eqb n (length xs)) refl
      where
        by : (b : Bool) → eqb n (length xs) ≡ b → side right (node_at (xs ++ x ∷ []) n) < length (xs ++ x ∷ [])
        by true e =
            let same : length xs ≡ n = sym (eqb-true n (length xs) e) in
            let last : node_at (xs ++ x ∷ []) n ≡ x = subst (λ i. node_at (xs ++ x ∷ []) i ≡ x) same (node_last xs x) in
            let here = inside right in
            subst (λ (y : Node). side right y < length (xs ++ x ∷ [])) (sym last) (omega (arith, here, long))
        by false e =
            let low : n < length xs = (let d : n ≡ length xs → ⊥ = λ s. (let t = eq-eqb n (length xs) s in cc) in grind (arith, long, lt)) in
            let there = closed.sides n right low in
            subst (λ (y : Node). side right y < length (xs ++ x ∷ [])) (sym (node_kept xs x n low)) (omega (arith, there, long))

pub grown_twice : (old mid new : List Node) (q r : ℕ) → Grown old mid q → Grown mid new r → Grown old new r
grown_twice old mid new q r g f = record {
  closed = f.closed;
  inside = f.inside;
  longer = (let a = g.longer in let b = f.longer in omega (arith, a, b));
  kept = λ h n k lt. (let a = g.longer in f.kept h n k (omega (arith, a, lt)) ∙ g.kept h n k lt);
}

leaf_put : (old : List Node) (n key value : ℕ) → Closed old → IsPut old (old ++ record { left = 0; right = 0; value = Some value } ∷ []) 0 n key value (length old)
leaf_put old n key value closed = record {
  grown = grown_more old (record { left = 0; right = 0; value = Some value }) zeros closed;
  found = λ small k lt. ap (λ (y : Node). y.value) (node_last old (record { left = 0; right = 0; value = Some value })) ∙ sym (ap (λ b. cond b (Some value) (find old 0 n k)) (eq-eqb key k (omega (arith, small, lt))));
}
  where
    zeros : (right : Bool) → side right (record { left = 0; right = 0; value = Some value }) < length old
    zeros false = closed.some
    zeros true = closed.some

pub put_leaf : (old new : List Node) (height n key value r : ℕ) (x : Node) → Closed old → height ≡ 0 → x ≡ record { left = 0; right = 0; value = Some value } → r ≡ length old → new ≡ old ++ x ∷ [] → IsPut old new height n key value r
put_leaf old new height n key value r x closed eh ex er en = subst (λ i. IsPut old new i n key value r) (sym eh) (subst (λ ns. IsPut old ns 0 n key value r) (sym (en ∙ ap (λ (z : Node). old ++ z ∷ []) ex)) (subst (λ i. IsPut old (old ++ record { left = 0; right = 0; value = Some value } ∷ []) 0 n key value i) (sym er) (leaf_put old n key value closed)))

half_small : (h key : ℕ) → key < keys (suc h) → key / 2 < keys h
half_small h key lt = omega arith

same_halves : (key k : ℕ) → is_odd key ≡ is_odd k → eqb (key / 2) (k / 2) ≡ eqb key k
same_halves key k e = by (eqb key k) refl (eqb (key / 2) (k / 2)) refl
  where
    by : (a : Bool) → eqb key k ≡ a → (b : Bool) → eqb (key / 2) (k / 2) ≡ b → b ≡ a
    by true e true f = refl
    by false e false f = refl
    by true s false f = let t : key ≡ k = eqb-true key k s in let u : eqb (key / 2) (k / 2) ≡ true = eq-eqb (key / 2) (k / 2) (ap (λ n. n / 2) t) in cc
    by false s true f = let t : key / 2 ≡ k / 2 = eqb-true (key / 2) (k / 2) f in let u : eqb key k ≡ true = eq-eqb key k (grind arith) in cc

other_key : (key k : ℕ) → is_odd key ≡ false → is_odd k ≡ true → eqb key k ≡ false
other_key key k e f = by (eqb key k) refl
  where
    by : (b : Bool) → eqb key k ≡ b → b ≡ false
    by false s = refl
    by true s = let t : is_odd key ≡ is_odd k = ap is_odd (eqb-true key k s) in cc

other_key_up : (key k : ℕ) → is_odd key ≡ true → is_odd k ≡ false → eqb key k ≡ false
other_key_up key k e f = by (eqb key k) refl
  where
    by : (b : Bool) → eqb key k ≡ b → b ≡ false
    by false s = refl
    by true s = let t : is_odd key ≡ is_odd k = ap is_odd (eqb-true key k s) in cc

-- the first node is the empty tree
pub find_empty : (xs : List Node) → Closed xs → (h k : ℕ) → find xs h 0 k ≡ None
find_empty xs closed zero k = ap (λ (y : Node). y.value) closed.empty
find_empty xs closed (suc h) k = ap (λ (y : Node). find xs h (side (is_odd k) y) (k / 2)) closed.empty ∙ (zeros (is_odd k) ∙ find_empty xs closed h (k / 2))
  where
    zeros : (b : Bool) → find xs h (side b no_node) (k / 2) ≡ find xs h 0 (k / 2)
    zeros true = refl
    zeros false = refl

module _ (old mid : List Node) (h n key value q : ℕ) (right : Bool) (is : right ≡ is_odd key) (closed : Closed old) (there : n < length old) (child : IsPut old mid h (side right (node_at old n)) (key / 2) value q) where
  abbrev x : Node
  x = with_side right (node_at old n) q

  inside : (y : Node) → ((b : Bool) → side b y < length mid) → (r b : Bool) → side b (with_side r y q) < length mid
  inside y low true true = child.grown.inside
  inside y low true false = low false
  inside y low false true = low true
  inside y low false false = child.grown.inside

  old_low : (b : Bool) → side b (node_at old n) < length mid
  old_low b = let low = closed.sides n b there in let long = child.grown.longer in omega (arith, low, long)

  grown : Grown old (mid ++ x ∷ []) (length mid)
  grown = grown_twice old mid (mid ++ x ∷ []) q (length mid) child.grown (grown_more mid x (inside (node_at old n) old_low right) child.grown.closed)

  side_found : (k : ℕ) → key / 2 < keys h → k / 2 < keys h → (b : Bool) → is_odd k ≡ b → (r : Bool) → right ≡ r → find (mid ++ x ∷ []) h (side b (with_side r (node_at old n) q)) (k / 2) ≡ cond (eqb key k) (Some value) (find old h (side b (node_at old n)) (k / 2))
  side_found k small low true ek true er =
      find_kept mid x child.grown.closed h q (k / 2) child.grown.inside
      ∙ (child.found small (k / 2) low
      ∙ (ap (λ c. cond c (Some value) (find old h (side right (node_at old n)) (k / 2))) (same_halves key k (sym is ∙ (er ∙ sym ek)))
      ∙ ap (λ c. cond (eqb key k) (Some value) (find old h (side c (node_at old n)) (k / 2))) er))
  side_found k small low false ek false er =
      find_kept mid x child.grown.closed h q (k / 2) child.grown.inside
      ∙ (child.found small (k / 2) low
      ∙ (ap (λ c. cond c (Some value) (find old h (side right (node_at old n)) (k / 2))) (same_halves key k (sym is ∙ (er ∙ sym ek)))
      ∙ ap (λ c. cond (eqb key k) (Some value) (find old h (side c (node_at old n)) (k / 2))) er))
  side_found k small low true ek false er =
      grown.kept h (side true (node_at old n)) (k / 2) (closed.sides n true there)
      ∙ sym (ap (λ c. cond c (Some value) (find old h (side true (node_at old n)) (k / 2))) (other_key key k (sym is ∙ er) ek))
  side_found k small low false ek true er =
      grown.kept h (side false (node_at old n)) (k / 2) (closed.sides n false there)
      ∙ sym (ap (λ c. cond c (Some value) (find old h (side false (node_at old n)) (k / 2))) (other_key_up key k (sym is ∙ er) ek))

  side_put : IsPut old (mid ++ x ∷ []) (suc h) n key value (length mid)
  side_put = record {
    grown = grown;
    found = λ small k lt. ap (λ (y : Node). find (mid ++ x ∷ []) h (side (is_odd k) y) (k / 2)) (node_last mid x) ∙ side_found k (half_small h key small) (half_small h k lt) (is_odd k) refl right refl;
  }

pub put_side : (old mid new : List Node) (height h n key value q r : ℕ) (right : Bool) (y x : Node) → height ≡ suc h → right ≡ is_odd key → y ≡ node_at old n → x ≡ with_side right y q → Closed old → n < length old → IsPut old mid h (side right y) (key / 2) value q → r ≡ length mid → new ≡ mid ++ x ∷ [] → IsPut old new height n key value r
put_side old mid new height h n key value q r right y x eh is ey ex closed there child er en = subst (λ i. IsPut old new i n key value r) (sym eh) (subst (λ ns. IsPut old ns (suc h) n key value r) (sym (en ∙ ap (λ (z : Node). mid ++ z ∷ []) (ex ∙ ap (λ (z : Node). with_side right z q) ey))) (subst (λ i. IsPut old (mid ++ with_side right (node_at old n) q ∷ []) (suc h) n key value i) (sym er) (side_put old mid h n key value q right is closed there (subst (λ (z : Node). IsPut old mid h (side right z) (key / 2) value q) ey child))))

pub same_grown : (xs : List Node) (r : ℕ) → Closed xs → r < length xs → Grown xs xs r
same_grown xs r closed lt = record { closed = closed; inside = lt; longer = omega arith; kept = λ h n k lt. refl }

pub merge_second : (xs : List Node) (h a b : ℕ) → Closed xs → a < length xs → b ≡ 0 → IsMerged xs xs h a b a
merge_second xs h a b closed lt e = record {
  grown = same_grown xs a closed lt;
  found = λ k. sym (ap (λ n. first_or (find xs h a k) (find xs h n k)) e ∙ (ap (first_or (find xs h a k)) (find_empty xs closed h k) ∙ first_or_none (find xs h a k)));
}

pub merge_first : (xs : List Node) (h a b : ℕ) → Closed xs → b < length xs → a ≡ 0 → IsMerged xs xs h a b b
merge_first xs h a b closed lt e = record {
  grown = same_grown xs b closed lt;
  found = λ k. sym (ap (λ n. first_or (find xs h n k) (find xs h b k)) e ∙ ap (λ o. first_or o (find xs h b k)) (find_empty xs closed h k));
}

leaf_merged : (xs : List Node) (h a b : ℕ) → Closed xs → a < length xs → b < length xs → h ≡ 0 → IsMerged xs xs h a b (with_value (node_at xs a).value a b)
leaf_merged xs h a b closed al bl e = subst (λ i. IsMerged xs xs i a b (with_value (node_at xs a).value a b)) (sym e) (record {
  grown = same_grown xs (with_value (node_at xs a).value a b) closed (low (node_at xs a).value);
  found = λ k. by (node_at xs a).value refl;
})
  where
    low : (o : Option ℕ) → with_value o a b < length xs
    low None = bl
    low (Some v) = al

    by : (o : Option ℕ) → (node_at xs a).value ≡ o → (node_at xs (with_value o a b)).value ≡ first_or o (node_at xs b).value
    by None e = refl
    by (Some v) e = e

pub merge_leaf : (xs : List Node) (h a b r : ℕ) (y : Node) → Closed xs → a < length xs → b < length xs → h ≡ 0 → y ≡ node_at xs a → r ≡ with_value y.value a b → IsMerged xs xs h a b r
merge_leaf xs h a b r y closed al bl e ey er = subst (λ i. IsMerged xs xs h a b i) (sym (er ∙ ap (λ (z : Node). with_value z.value a b) ey)) (leaf_merged xs h a b closed al bl e)

module _ (old mid last : List Node) (h a b l r : ℕ) (closed : Closed old) (al : a < length old) (bl : b < length old) (left : IsMerged old mid h (side false (node_at old a)) (side false (node_at old b)) l) (right : IsMerged mid last h (side true (node_at old a)) (side true (node_at old b)) r) where
  abbrev both : Node
  both = record { left = l; right = r; value = None }

  low : (s : Bool) → side s both < length last
  low true = right.grown.inside
  low false = let i = left.grown.inside in let g = right.grown.longer in omega (arith, i, g)

  end : Grown last (last ++ both ∷ []) (length last)
  end = grown_more last both low right.grown.closed

  sides : (s : Bool) (k : ℕ) → find (last ++ both ∷ []) h (side s both) k ≡ first_or (find old h (side s (node_at old a)) k) (find old h (side s (node_at old b)) k)
  sides true k =
      end.kept h r k right.grown.inside
      ∙ (right.found k
      ∙ (ap (λ o. first_or o (find mid h (side true (node_at old b)) k)) (left.grown.kept h (side true (node_at old a)) k (closed.sides a true al))
      ∙ ap (first_or (find old h (side true (node_at old a)) k)) (left.grown.kept h (side true (node_at old b)) k (closed.sides b true bl))))
  sides false k = end.kept h l k (low false) ∙ (right.grown.kept h l k left.grown.inside ∙ left.found k)

  sides_merged : IsMerged old (last ++ both ∷ []) (suc h) a b (length last)
  sides_merged = record {
    grown = grown_twice old last (last ++ both ∷ []) r (length last) (grown_twice old mid last l r left.grown right.grown) end;
    found = λ k. ap (λ (y : Node). find (last ++ both ∷ []) h (side (is_odd k) y) (k / 2)) (node_last last both) ∙ sides (is_odd k) (k / 2);
  }

pub merge_sides : (old mid last new : List Node) (height h a b l r n : ℕ) (y z : Node) → height ≡ suc h → Closed old → a < length old → b < length old → y ≡ node_at old a → z ≡ node_at old b → IsMerged old mid h y.left z.left l → IsMerged mid last h y.right z.right r → n ≡ length last → new ≡ last ++ record { left = l; right = r; value = None } ∷ [] → IsMerged old new height a b n
merge_sides old mid last new height h a b l r n y z eh closed al bl ey ez left right er en = subst (λ i. IsMerged old new i a b n) (sym eh) (subst (λ ns. IsMerged old ns (suc h) a b n) (sym en) (subst (λ i. IsMerged old (last ++ record { left = l; right = r; value = None } ∷ []) (suc h) a b i) (sym er) (sides_merged old mid last h a b l r closed al bl (subst (λ (w : Node). IsMerged old mid h (node_at old a).left w.left l) ez (subst (λ (w : Node). IsMerged old mid h w.left z.left l) ey left)) (subst (λ (w : Node). IsMerged mid last h (node_at old a).right w.right r) ez (subst (λ (w : Node). IsMerged mid last h w.right z.right r) ey right)))))

pub sides_there : (old new : List Node) (n r : ℕ) (y : Node) → Closed old → n < length old → Grown old new r → y ≡ node_at old n → (y.left < length new) × (y.right < length new)
sides_there old new n r y closed lt grown e = subst (λ (w : Node). (w.left < length new) × (w.right < length new)) (sym e) (let a = closed.sides n false lt in let b = closed.sides n true lt in let long = grown.longer in (omega (arith, a, long), omega (arith, b, long)))

-- what both sides have, the tree has
pub sides_all : (xs : List Node) (height h n : ℕ) (y : Node) (mid new : List ℕ) → height ≡ suc h → y ≡ node_at xs n → ((v : ℕ) → contains mid v ≡ true → contains new v ≡ true) → ((k v : ℕ) → find xs h y.left k ≡ Some v → contains mid v ≡ true) → ((k v : ℕ) → find xs h y.right k ≡ Some v → contains new v ≡ true) → (k v : ℕ) → find xs height n k ≡ Some v → contains new v ≡ true
sides_all xs height h n y mid new eh ey kept left right k v f = by (is_odd k) (subst (λ (z : Node). find xs h (side (is_odd k) z) (k / 2) ≡ Some v) (sym ey) (subst (λ i. find xs i n k ≡ Some v) eh f))
  where
    by : (b : Bool) → find xs h (side b y) (k / 2) ≡ Some v → contains new v ≡ true
    by true f = right (k / 2) v f
    by false f = kept v (left (k / 2) v f)

pub none_all : (xs : List Node) (h n : ℕ) (new : List ℕ) → Closed xs → n ≡ 0 → (k v : ℕ) → find xs h n k ≡ Some v → contains new v ≡ true
none_all xs h n new closed e k v f = let none : None ≡ Some v = sym (ap (λ i. find xs h i k) e ∙ find_empty xs closed h k) ∙ f in cc
