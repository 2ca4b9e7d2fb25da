-- Walks by the least steps that are known, and what they are.
use Rattle.std.proofs.Common.{◌≡◌, ℕ, suc, ◌+◌, ◌-◌, ◌<◌, ◌≤◌, ⊎_elim, true, false, ◌&&◌, List, [], ◌∷◌, ◌++◌, length, take, Option, Some, None, refl, sym, ap, ◌∙◌, subst, arith, append_assoc, append-nil}
use Rattle.std.specs.Prelude.{eqb, ltb, slice_index_or}
use Rattle.std.proofs.lemmas.Bool.{and_from, and_parts, or_cases, or_left, or_right}
use Rattle.std.proofs.lemmas.List.{length_push, take_more}
use Rattle.jn_quals.specs.Qualifier.{Qualifier}
use Rattle.jn_points.specs.declared.program.Program.{Program}
use Rattle.jn_env.specs.Order.{Table}
use Rattle.jn_reasons_law.specs.declared.item.Item.{Item}
use Rattle.jn_reasons_law.specs.declared.item.Step.{Step}
use Rattle.jn_reasons_law.specs.Items.{Stands}
use Rattle.jn_reasons_law.specs.Chains.{HasChain, IsCause, IsChain}
use Rattle.jn_reasons_law.specs.Choice.{BeginsAt, IsFirstChain, is_before, place_list}
use Rattle.jn_reasons_law.specs.Walk.{IsWalk}
use Rattle.jn_chain.specs.declared.chains.Rest.{Rest}
use Rattle.jn_chain.specs.Search.{Ground, source_list, way_list, IsThere, IsNext, Reaches, IsStep, IsWay, IsLeastStep, left_of, AreRests, IsFound, IsKnownStep, IsPath, IsShortestWay}
use Rattle.jn_chain.proofs.Ordering.{never, as_false}
use Rattle.jn_chain.specs.Keys.{IsEnd}
use Rattle.jn_chain.proofs.Resting.{left_least, left_reaches, some_rest}

abbrev Source : Type 0
Source = Option Item

-- so many steps are left from a source, and each way from there goes on with the steps
pub record IsWalked (G : Ground) (K : Item → Option Rest) (x : Item) (count left : ℕ) (source : Source) (steps : List Step) : Type 0 where
  pub long : length steps + left ≡ count
  pub known : left_of K source ≡ Some left
  pub way : (rest : List Step) → IsWay G source rest → length rest ≡ left → IsWay G (Some x) (steps ++ rest)

regroup : (a : List Step) (x : Step) (c : List Step) → (a ++ x ∷ []) ++ c ≡ a ++ (x ∷ c)
regroup a x c = simp append_assoc

module _ (G : Ground) (K : Item → Option Rest) (R : AreRests G K) where
  same_rest : (r q : Rest) → Some r ≡ Some q → r ≡ q
  same_rest r q e = cc

  -- by what is known of the item
  pub least_step : (source : Source) (item : Item) (left : ℕ) (rest : Rest) → left_of K source ≡ Some (left + 1) → source ≡ Some item → Some rest ≡ K item → IsLeastStep G K left source (record { item = item; place = rest.cause.place }) rest.cause.source
  least_step source item left rest k e h =
      let r = some_rest K item (left + 1) (subst (λ (z : Source). left_of K z ≡ Some (left + 1)) e k) in
      let same : rest ≡ r.0 = same_rest rest r.0 (h ∙ r.1) in
      let is = R item rest (sym h) in
      let less : rest.left - 1 ≡ left = (let l : rest.left ≡ left + 1 = ap (λ (q : Rest). q.left) same ∙ r.2 in omega (arith, l)) in
      record {
        is = e;
        way = record { next = is.next; least = λ p z i v. is.least p z i (subst (λ (m : ℕ). Reaches G m z) (sym less) v) };
        known = is.behind ∙ ap Some less;
      }

  module _ (x : Item) (count : ℕ) where
    pub walk_start : (steps : List Step) → steps ≡ [] → left_of K (Some x) ≡ Some count → IsWalked G K x count count (Some x) steps
    walk_start steps e k = subst (IsWalked G K x count count (Some x)) (sym e) (record { long = (let e : 0 + count ≡ count = omega arith in e); known = k; way = λ rest w l. w })

    one_less : (left : ℕ) → 0 < left → left ≡ (left - 1) + 1
    one_less left lt = omega (arith, lt)

    -- as many are left as a step needs
    pub walk_left : (left : ℕ) (source : Source) (steps : List Step) → 0 < left → IsWalked G K x count left source steps → left_of K source ≡ Some ((left - 1) + 1)
    walk_left left source steps lt W = W.known ∙ ap Some (one_less left lt)

    pub walk_more : (left : ℕ) (source : Source) (steps new : List Step) (step : Step) (y : Source) → 0 < left → IsWalked G K x count left source steps → IsLeastStep G K (left - 1) source step y → new ≡ steps ++ step ∷ [] → IsWalked G K x count (left - 1) y new
    walk_more left source steps new step y lt W s e = subst (IsWalked G K x count (left - 1) y) (sym e) (record {
      long = omega (arith, length_push steps step, W.long, lt);
      known = s.known;
      way = λ rest w l. subst (IsWay G (Some x)) (sym (regroup steps step rest)) (W.way (step ∷ rest) (s.is, (y, here rest l, w)) (long rest l));
    })
      where
        here : (rest : List Step) → length rest ≡ left - 1 → IsStep G (length rest) step y
        here rest l = subst (λ (k : ℕ). IsStep G k step y) (sym l) s.way

        long : (rest : List Step) → length rest ≡ left - 1 → length (step ∷ rest) ≡ left
        long rest l = omega (arith, l, lt)

    -- where no step is left, the walk is at the text
    at_text : (source : Source) → left_of K source ≡ Some 0 → IsWay G source []
    at_text None k = refl
    at_text (Some y) k = let r = some_rest K y 0 k in let is = R y r.0 r.1 in let lt = is.some in let l = r.2 in absurd (omega (arith, lt, l))

    pub walk_way : (left : ℕ) (source : Source) (steps : List Step) → left ≤ 0 → IsWalked G K x count left source steps → IsWay G (Some x) steps
    walk_way left source steps le W =
        let none : left ≡ 0 = omega (arith, le) in
        subst (IsWay G (Some x)) (append-nil steps) (W.way [] (at_text source (W.known ∙ ap Some none)) (sym none))

    pub walk_long : (left : ℕ) (source : Source) (steps : List Step) → left ≤ 0 → IsWalked G K x count left source steps → length steps ≡ count
    walk_long left source steps le W = let h = W.long in omega (arith, le, h)

-- ---- paths

module _ (G : Ground) (K : Item → Option Rest) where
  pub path_start : (z : Source) (steps : List Step) → steps ≡ [] → IsPath G K z steps z
  path_start z steps e = subst (λ (l : List Step). IsPath G K z l z) (sym e) refl

  one_more : (z y w : Source) (left : ℕ) (steps : List Step) (x : Step) → IsPath G K z steps y → left_of K y ≡ Some (left + 1) → IsLeastStep G K left y x w → IsPath G K z (steps ++ x ∷ []) w
  one_more z y w left [] x p k l = (p ∙ l.is, (w, record { left = left; known = subst (λ (v : Source). left_of K v ≡ Some (left + 1)) l.is k; way = l.way; behind = l.known }, refl))
  one_more z y w left (v ∷ more) x p k l = (p.0, (p.1.0, p.1.1, one_more p.1.0 y w left more x p.1.2 k l))

  pub path_more : (z y w : Source) (left : ℕ) (steps new : List Step) (x : Step) → IsPath G K z steps y → left_of K y ≡ Some (left + 1) → IsLeastStep G K left y x w → new ≡ steps ++ x ∷ [] → IsPath G K z new w
  path_more z y w left steps new x p k l e = subst (λ (l : List Step). IsPath G K z l w) (sym e) (one_more z y w left steps x p k l)

  split : (z stop : Source) (steps : List Step) (x : Step) → IsPath G K z (steps ++ x ∷ []) stop → IsPath G K z steps (Some x.item) × IsKnownStep G K x stop
  split z stop [] x p = (p.0, subst (IsKnownStep G K x) p.1.2 p.1.1)
  split z stop (v ∷ more) x p = let r = split p.1.0 stop more x p.1.2 in ((p.0, (p.1.0, p.1.1, r.0)), r.1)

  -- without its last step
  pub path_less : (z stop : Source) (steps : List Step) (i : ℕ) (d : Step) → i < length steps → IsPath G K z (take (i + 1) steps) stop
      → IsPath G K z (take i steps) (Some (slice_index_or steps i d).item) × IsKnownStep G K (slice_index_or steps i d) stop
  path_less z stop steps i d lt p = split z stop (take i steps) (slice_index_or steps i d) (subst (λ (l : List Step). IsPath G K z l stop) (take_more steps i d lt) p)

  module _ (R : AreRests G K) where
    -- where no step is left, there is the text, which is an end
    pub path_ends : {A : Type 0} (kept : Item → Option A) (left : ℕ) (y : Source) → left ≤ 0 → left_of K y ≡ Some left → IsEnd A kept y
    path_ends kept left None le k = tt
    path_ends kept left (Some y) le k =
        let r = some_rest K y left k in
        let some = (R y r.0 r.1).some in
        let is = r.2 in
        absurd (omega (arith, le, some, is))

    pub way_reaches : (z : Source) (steps : List Step) → IsWay G z steps → Reaches G (length steps) z
    way_reaches z [] w = w
    way_reaches z (x ∷ more) w =
        let y = w.1.0 in
        let step : IsStep G (length more) x y = w.1.1 in
        subst (λ (u : Source). Reaches G (suc (length more)) u) (sym w.0) (x.place, y, step.next, way_reaches y more w.1.2)

    pub no_way : IsShortestWay G None []
    no_way = record { way = refl; shortest = λ m v. omega arith }

    -- a shortest way with a step before it
    pub way_more : (x : Step) (y : Source) (steps : List Step) → IsKnownStep G K x y → IsShortestWay G y steps → IsShortestWay G (Some x.item) (x ∷ steps)
    way_more x y steps k h =
        let low : length steps ≤ k.left = h.shortest k.left (left_reaches G K R y k.left k.behind) in
        let high : k.left ≤ length steps = left_least G K R y k.left (length steps) k.behind (way_reaches y steps h.way) in
        let same : k.left ≡ length steps = omega (arith, low, high) in
        record {
          way = (refl, (y, subst (λ (n : ℕ). IsStep G n x y) same k.way, h.way));
          shortest = λ m v. let l = left_least G K R (Some x.item) (k.left + 1) m k.known v in omega (arith, l, same);
        }

-- of lists of numbers whose fronts decide
longer : (a c xs ys : List ℕ) → is_before a c ≡ true → is_before (a ++ xs) (c ++ ys) ≡ true
longer [] c xs ys h = absurd (never h)
longer (m ∷ a) [] xs ys h = absurd (never h)
longer (m ∷ a) (n ∷ c) xs ys h = ⊎_elim
    (λ l. or_left (ltb m n) (eqb m n && is_before (a ++ xs) (c ++ ys)) l)
    (λ r. let f = and_parts (eqb m n) (is_before a c) r in
    or_right (ltb m n) (eqb m n && is_before (a ++ xs) (c ++ ys)) (and_from (eqb m n) (is_before (a ++ xs) (c ++ ys)) f.0 (longer a c xs ys f.1)))
    (or_cases (ltb m n) (eqb m n && is_before a c) h)

front : (a c xs ys : List ℕ) → is_before (a ++ xs) (c ++ ys) ≡ false → is_before a c ≡ false
front a c xs ys f = as_false (is_before a c) (λ t. never (sym f ∙ longer a c xs ys t))

module _ (G : Ground) where
  abbrev P : Program
  P = G.program

  abbrev s : List Qualifier
  s = G.sig

  abbrev T : List Table
  T = G.tables

  first_stands : (y : Step) (ys : List Step) → IsChain P s T (y ∷ ys) → Stands s T y.item
  first_stands y [] c = c.0
  first_stands y (z ∷ zs) c = c.0

  -- a chain of so many steps is so far from the text
  pub chain_reaches : (y : Step) (ys : List Step) → IsChain P s T (y ∷ ys) → Reaches G (suc (length ys)) (Some y.item)
  chain_reaches y [] c = (y.place, None, (c.1, tt), refl)
  chain_reaches y (z ∷ zs) c = (y.place, Some z.item, (c.1, first_stands z zs c.2), chain_reaches z zs c.2)

  from_item : (x : Item) (steps : List Step) → BeginsAt x steps → IsChain P s T steps → Stands s T x × Reaches G (length steps) (Some x)
  from_item x [] b c = absurd c
  from_item x (y ∷ ys) b c = (subst (Stands s T) b (first_stands y ys c), subst (λ (i : Item). Reaches G (suc (length ys)) (Some i)) b (chain_reaches y ys c))

  way_walk : (z : Source) (x : Step) (more : List Step) → IsThere G z → IsWay G z (x ∷ more) → IsWalk P s T (x ∷ more)
  way_walk z x [] there w =
      let y = w.1.0 in
      let step : IsStep G 0 x y = w.1.1 in
      let e : y ≡ None = w.1.2 in (
        subst (IsThere G) w.0 there,
        (subst (λ (v : Source). IsNext G (Some x.item) x.place v) e step.next).0,
        λ q c. front (place_list q) (place_list x.place) (source_list None) (source_list None) (subst (λ (v : Source). is_before (way_list q None) (way_list x.place v) ≡ false) e (step.least q None (c, tt) refl)),
      )
  way_walk z x (v ∷ more) there w =
      let y = w.1.0 in
      let step : IsStep G (length (v ∷ more)) x y = w.1.1 in
      let rest : IsWay G y (v ∷ more) = w.1.2 in (
        subst (IsThere G) w.0 there,
        subst (λ (u : Source). IsCause P s T x.item x.place u) rest.0 step.next.0,
        λ q u c e. let f = from_item u e.steps e.begins e.chain in
            subst (λ (k : Source). is_before (way_list q (Some u)) (way_list x.place k) ≡ false) rest.0 (step.least q (Some u) (c, f.0) (subst (λ (k : ℕ). Reaches G k (Some u)) e.long f.1)),
        way_walk y v more step.next.1 rest,
      )

  abbrev FirstLaw : Type 0
  FirstLaw = (x : Item) (steps : List Step) → BeginsAt x steps → IsWalk P s T steps → ((others : List Step) → BeginsAt x others → IsChain P s T others → length steps ≤ length others) → IsFirstChain P s T x steps

  some_same : (x y : Item) → Some x ≡ Some y → y ≡ x
  some_same x y e = cc

  none_some : (x : Item) → Some x ≡ None → ⊥
  none_some x e = cc

  -- what has a chain stands
  pub chain_stands : (x : Item) → HasChain P s T x → Stands s T x
  chain_stands x h = first_stands (record { item = x; place = h.place }) h.more h.chain

  -- a shortest way is the first chain
  pub shortest_first : (law : FirstLaw) (x : Item) (steps : List Step) → Stands s T x → IsShortestWay G (Some x) steps → IsFirstChain P s T x steps
  shortest_first law x [] st h = absurd (none_some x h.way)
  shortest_first law x (y ∷ ys) st h = law x (y ∷ ys) (some_same x y.item h.way.0) (way_walk (Some x) y ys st h.way) (λ others b c. h.shortest (length others) (from_item x others b c).1)

  -- the walk is the first chain
  pub walk_first : (law : FirstLaw) (K : Item → Option Rest) (x : Item) (left : ℕ) → IsFound G K x left → Stands s T x → (steps : List Step) → IsWay G (Some x) steps → length steps ≡ left → IsFirstChain P s T x steps
  walk_first law K x left F st steps w l = shortest_first law x steps st (record { way = w; shortest = λ m v. subst (λ (n : ℕ). n ≤ m) (sym l) (left_least G K F.rests_are (Some x) left m F.known v) })
