-- The points that lead to a point: lists of them that grow, and that no other point carries anything there.
use Rattle.std.proofs.Common.{◌≡◌, ◌⊎◌, inl, inr, ⊎_elim, ℕ, zero, suc, ◌+◌, ◌-◌, ◌<◌, ◌≤◌, Bool, true, false, cond, ◌||◌, List, [], ◌∷◌, ◌++◌, length, Option, Some, None, refl, sym, ap, ◌∙◌, subst, arith, append_assoc, append-nil, add-one}
use Rattle.std.specs.Prelude.{eqb, slice_get, slice_index_or}
use Rattle.std.proofs.lemmas.Bool.{cases_lt, eqb-true, eq-eqb, false≢true, or_cases}
use Rattle.std.proofs.lemmas.List.{length_push}
use Rattle.jn_base.specs.declared.number.PointNo.{PointNo}
use Rattle.jn_quals.specs.Qualifier.{Qualifier}
use Rattle.jn_points.specs.declared.leads.Edges.{Edges}
use Rattle.jn_points.specs.declared.point.Point.{Point}
use Rattle.jn_points.specs.declared.point.PointKind.{PointKind}
use Rattle.jn_points.specs.declared.point.PointKind.TheVariants.{Const, Move, Unary, Binary, Concat, SameRef, FieldRead, FieldWrite, StaticRead, StaticWrite, ElemRead, ElemWrite, ArrayLen, NewArray, ArrayOf, New, CtorCall, Call, StrOp, Print, Cast, TestInst, TestNull, Branch, Goto, Return}
use Rattle.jn_points.specs.declared.program.Program.{Program}
use Rattle.jn_points.specs.Edges.{edges_of, edges_at}
use Rattle.jn_points.specs.Lookup.{body_at, point_at, points_of}
use Rattle.jn_env.specs.Order.{Table, env_in}
use Rattle.jn_transfer.specs.Sized.{Below, StaysInside}
use Rattle.jn_tables_law.specs.Inferable.{IsInferable}
use Rattle.jn_reasons_law.specs.declared.item.Bit.{Bit}
use Rattle.jn_reasons_law.specs.declared.item.Item.TheVariants.{AtRegister}
use Rattle.jn_reasons.specs.declared.causes.Cause.{Cause}
use Rattle.jn_reasons.specs.Listed.{IsListed, firsts, over_point, carried, entered, register_causes, causes}
use Rattle.jn_origins.specs.declared.bodies.KnownBody.{KnownBody}
use Rattle.jn_origins.specs.Leading.{leads, point_list, edge_list, AreLed, AreJumpsBelow, AreJumps, IsKnown, AreKnownBelow, AreKnown, previous}
use Rattle.jn_origins.specs.Targets.{IsOf, over, AreSame}
use Rattle.jn_origins.proofs.Sending.{of_left, of_right, of_either, listed_left, listed_right, listed_either, in_firsts, to_firsts, to_over, in_over, same_list}
use Rattle.jn_origins.proofs.Skipping.{skipped}
use Rattle.jn_origins.proofs.Steps.{no_body, point_is, there}

abbrev at : List (List ℕ) → ℕ → List ℕ
at lists k = slice_index_or lists k []

-- ---- lists that grow

module _ (from : ℕ) where
  pub led_one : (a c : List (List ℕ)) (n : ℕ) → length c ≡ length a → ((d : ℕ) → at c d ≡ at a d ++ cond (eqb n d) (from ∷ []) []) → AreLed from (n ∷ []) a c
  led_one a c n long h = record {
    long = long;
    kept = λ k x m. subst (IsOf x) (sym (h k)) (of_left x (at a k) (cond (eqb n k) (from ∷ []) []) m);
    there = λ k lt m. by k m;
  }
    where
      by : (k : ℕ) → IsOf k (n ∷ []) → (k ≡ from + 1) ⊎ IsOf from (at c k)
      by k (inl same) = inr (subst (IsOf from) (sym (h k)) (of_right from (at a k) (cond (eqb n k) (from ∷ []) []) (subst (λ (t : Bool). IsOf from (cond t (from ∷ []) [])) (sym (eq-eqb n k (sym same))) (inl refl))))
      by k (inr m) = absurd m

  pub led_both : (xs ys : List ℕ) (a c d : List (List ℕ)) → AreLed from xs a c → AreLed from ys c d → AreLed from (xs ++ ys) a d
  led_both xs ys a c d h g = record {
    long = g.long ∙ h.long;
    kept = λ k x m. g.kept k x (h.kept k x m);
    there = λ k lt m. let l = h.long in ⊎_elim
        (λ (o : IsOf k xs). ⊎_elim (λ (e : k ≡ from + 1). inl e) (λ (i : IsOf from (at c k)). inr (g.kept k from i)) (h.there k lt o))
        (λ (o : IsOf k ys). g.there k (omega (arith, lt, l)) o) (of_either k xs ys m);
  }

-- one point more
pub jumps_more : (points : List Point) (n : ℕ) (e : Edges) (a c : List (List ℕ)) → e ≡ edges_at (slice_get points n) n → AreJumpsBelow n points a → AreLed n (edge_list e) a c → AreJumpsBelow (n + 1) points c
jumps_more points n e a c edges h g = record { long = g.long ∙ h.long; all = λ q k pt lt is inside i. by q k pt lt is inside i (cases_lt q n) }
  where
    by : (q k : ℕ) (pt : Point) → q < n + 1 → slice_get points q ≡ Some pt → k < length points → IsOf k (edge_list (edges_of pt.kind q)) → (q < n) ⊎ (n ≤ q) → (k ≡ q + 1) ⊎ IsOf q (at c k)
    by q k pt lt is inside i (inl less) = ⊎_elim (λ (f : k ≡ q + 1). inl f) (λ (o : IsOf q (at a k)). inr (g.kept k q o)) (h.all q k pt less is inside i)
    by q k pt lt is inside i (inr le) =
        let same : n ≡ q = omega (arith, lt, le) in
        let here : e ≡ edges_of pt.kind q = edges ∙ ap (λ (m : ℕ). edges_at (slice_get points m) m) same ∙ ap (λ (o : Option Point). edges_at o q) is in
        let long = h.long in
        subst (λ (m : ℕ). (k ≡ m + 1) ⊎ IsOf m (at c k)) same
        (g.there k (omega (arith, inside, long)) (subst (λ (x : Edges). IsOf k (edge_list x)) (sym here) i))

-- ---- what is known of bodies

some_same : (x y : KnownBody) → Some x ≡ Some y → y ≡ x
some_same x y e = cc

none_some : (x : KnownBody) → None ≡ Some x → ⊥
none_some x e = cc

got_pushed : (xs : List KnownBody) (x y : KnownBody) (b : ℕ) → slice_get (xs ++ x ∷ []) b ≡ Some y → (slice_get xs b ≡ Some y) ⊎ ((b ≡ length xs) × (y ≡ x))
got_pushed [] x y zero e = inr (refl, some_same x y e)
got_pushed [] x y (suc b) e = absurd (none_some y e)
got_pushed (z ∷ xs) x y zero e = inl e
got_pushed (z ∷ xs) x y (suc b) e = ⊎_elim (λ (h : slice_get xs b ≡ Some y). inl h) (λ (h : (b ≡ length xs) × (y ≡ x)). inr (ap suc h.0, h.1)) (got_pushed xs x y b e)

module _ (P : Program) where
  pub known_more : (n : ℕ) (xs new : List KnownBody) (x : KnownBody) → new ≡ xs ++ x ∷ [] → AreKnownBelow P n xs → IsKnown P n x → AreKnownBelow P (n + 1) new
  known_more n xs new x e h i = subst (AreKnownBelow P (n + 1)) (sym e) (record {
    long = length_push xs x ∙ ap (λ (k : ℕ). k + 1) h.long;
    each = λ b y m. ⊎_elim (λ (o : slice_get xs b ≡ Some y). h.each b y o)
        (λ (o : (b ≡ length xs) × (y ≡ x)). subst (λ (k : ℕ). IsKnown P k y) (sym (o.0 ∙ h.long)) (subst (IsKnown P n) (sym o.1) i))
        (got_pushed xs x y b m);
  })

  pub known_at : (list : List KnownBody) (b : ℕ) (x : KnownBody) → AreKnown P list → b < length P.bodies → x ≡ slice_index_or list b x → IsKnown P b x
  known_at list b x h lt e = let long = h.long in h.each b x (there KnownBody list b x (omega (arith, lt, long)) ∙ sym (ap Some e))

-- ---- which points lead to a point

next_of : (q p : ℕ) → eqb (q + 1) p ≡ true → IsOf p ((q + 1) ∷ [])
next_of q p h = inl (sym (eqb-true (q + 1) p h))

two_of : (a b p : ℕ) → (eqb a p || eqb b p) ≡ true → IsOf p (a ∷ b ∷ [])
two_of a b p h = ⊎_elim (λ (g : eqb a p ≡ true). inl (sym (eqb-true a p g))) (λ (g : eqb b p ≡ true). inr (inl (sym (eqb-true b p g)))) (or_cases (eqb a p) (eqb b p) h)

leads_edge : (kind : PointKind) (q p : ℕ) → leads kind q p ≡ true → IsOf p (edge_list (edges_of kind q))
leads_edge (Const dst v) q p h = next_of q p h
leads_edge (Move dst from bound) q p h = next_of q p h
leads_edge (Unary dst neg of) q p h = next_of q p h
leads_edge (Binary dst op l g) q p h = next_of q p h
leads_edge (Concat dst l g) q p h = next_of q p h
leads_edge (SameRef dst eq l g) q p h = next_of q p h
leads_edge (FieldRead dst o f) q p h = next_of q p h
leads_edge (FieldWrite o f v) q p h = next_of q p h
leads_edge (StaticRead dst f) q p h = next_of q p h
leads_edge (StaticWrite f v) q p h = next_of q p h
leads_edge (ElemRead dst o i) q p h = next_of q p h
leads_edge (ElemWrite o i v) q p h = next_of q p h
leads_edge (ArrayLen dst o) q p h = next_of q p h
leads_edge (NewArray dst base n) q p h = next_of q p h
leads_edge (ArrayOf dst base xs) q p h = next_of q p h
leads_edge (New dst m args) q p h = next_of q p h
leads_edge (CtorCall m args own) q p h = next_of q p h
leads_edge (Call dst m o direct args) q p h = next_of q p h
leads_edge (StrOp dst op of other) q p h = next_of q p h
leads_edge (Print of) q p h = next_of q p h
leads_edge (Cast dst of c) q p h = next_of q p h
leads_edge (TestInst of c og at_yes at_no) q p h = two_of at_yes.0 at_no.0 p h
leads_edge (TestNull of og at_null at_value) q p h = two_of at_null.0 at_value.0 p h
leads_edge (Branch of at_yes at_no) q p h = two_of at_yes.0 at_no.0 p h
leads_edge (Goto to) q p h = inl (sym (eqb-true to.0 p h))
leads_edge (Return v) q p h = absurd (false≢true h)

below_of : (n : ℕ) (o : Option PointNo) (p : ℕ) → Below n o → IsOf p (point_list o) → p < n
below_of n None p h i = absurd i
below_of n (Some to) p h (inl e) = omega (arith, h, e)
below_of n (Some to) p h (inr i) = absurd i

edge_below : (n : ℕ) (e : Edges) (p : ℕ) → Below n e.first × Below n e.second → IsOf p (edge_list e) → p < n
edge_below n e p h i = ⊎_elim (λ (g : IsOf p (point_list e.first)). below_of n e.first p h.0 g) (λ (g : IsOf p (point_list e.second)). below_of n e.second p h.1 g) (of_either p (point_list e.first) (point_list e.second) i)

gone : (points : List Point) (q : ℕ) → length points ≤ q → slice_get points q ≡ None
gone [] q le = refl
gone (x ∷ points) zero le = absurd (omega (arith, le))
gone (x ∷ points) (suc q) le = gone points q (omega (arith, le))

same_right : (a xs ys : List Cause) → AreSame xs ys → AreSame (a ++ xs) (a ++ ys)
same_right a xs ys h = record { all = λ c m. go c ys xs (h.all c) m; none_else = λ c m. go c xs ys (h.none_else c) m }
  where
    go : (c : Cause) (us vs : List Cause) → (IsListed c us → IsListed c vs) → IsListed c (a ++ us) → IsListed c (a ++ vs)
    go c us vs f m = ⊎_elim (λ (g : IsListed c a). listed_left c a vs g) (λ (g : IsListed c us). listed_right c a vs (f g)) (listed_either c a us m)

module _ (P : Program) (s : List Qualifier) (b : ℕ) (T : Table) (p r : ℕ) (bit : Bit) where
  abbrev F : ℕ → List Cause
  F = carried P s b T p r bit

  abbrev count : ℕ
  count = length (points_of (body_at P b))

  past_none : (q : ℕ) → count ≤ q → F q ≡ []
  past_none q le = ap (λ (o : Option Point). over_point P s b p r bit q o (env_in T q)) (gone (points_of (body_at P b)) q le)

  -- over a point that is there, and one that isn't
  pub carried_at : (points : List Point) (q : ℕ) (pt : Point) (list new : List Cause) → points ≡ points_of (body_at P b) → q < length points → pt ≡ slice_index_or points q pt → new ≡ list ++ over_point P s b p r bit q (Some pt) (env_in T q) → new ≡ list ++ F q
  carried_at points q pt list new is lt e h = h ∙ ap (λ (o : Option Point). list ++ over_point P s b p r bit q o (env_in T q)) (sym (point_is P b points q pt is lt e))

  pub carried_past : (points : List Point) (q : ℕ) (list : List Cause) → points ≡ points_of (body_at P b) → length points ≤ q → list ≡ list ++ F q
  carried_past points q list is le = sym (append-nil list) ∙ ap (λ (l : List Cause). list ++ l) (sym (past_none q (subst (λ (l : List Point). length l ≤ q) is le)))

  any_below : (c : Cause) (q : ℕ) → IsListed c (F q) → IsListed c (firsts F count)
  any_below c q h = ⊎_elim (λ (lt : q < count). to_firsts F count q c lt h) (λ (le : count ≤ q). absurd (subst (IsListed c) (past_none q le) h)) (cases_lt q count)

  before_below : (c : Cause) (m : ℕ) → IsListed c (previous F m) → IsListed c (firsts F count)
  before_below c zero h = absurd h
  before_below c (suc q) h = any_below c q h

  module _ (lists : List (List ℕ)) (jumps : AreJumps (points_of (body_at P b)) lists) (stays : StaysInside P b) where
    abbrev found : List Cause
    found = previous F p ++ over F (at lists p)

    is_found : (c : Cause) (q : ℕ) (o : Option Point) → q < count → point_at P b q ≡ o → IsListed c (over_point P s b p r bit q o (env_in T q)) → IsListed c (F q) → IsListed c found
    is_found c q None lt is h g = absurd h
    is_found c q (Some pt) lt is h g = by (leads pt.kind q p) refl
      where
        by : (t : Bool) → leads pt.kind q p ≡ t → IsListed c found
        by false e = absurd (subst (IsListed c) (skipped P s b p r bit q pt (env_in T q) e) h)
        by true e =
            let i = leads_edge pt.kind q p e in
            ⊎_elim
            (λ (f : p ≡ q + 1). listed_left c (previous F p) (over F (at lists p)) (subst (λ (m : ℕ). IsListed c (previous F m)) (sym (f ∙ add-one q)) g))
            (λ (o : IsOf q (at lists p)). listed_right c (previous F p) (over F (at lists p)) (to_over F (at lists p) q c o g))
            (jumps.all q p pt lt is (edge_below count (edges_of pt.kind q) p (stays.edges q pt is) i) i)

    same_carried : AreSame found (firsts F count)
    same_carried = record {
      all = λ c h. let k = in_firsts F count c h in is_found c k.number (point_at P b k.number) k.below refl k.listed k.listed;
      none_else = λ c h. ⊎_elim (λ (g : IsListed c (previous F p)). before_below c p g)
          (λ (g : IsListed c (over F (at lists p))). let k = in_over F (at lists p) c g in any_below c k.0 k.1)
          (listed_either c (previous F p) (over F (at lists p)) h);
    }

    -- the entry, the point right before and those that lead there from elsewhere
    pub same_register : (there : List ℕ) (none a c d : List Cause) → there ≡ at lists p → none ≡ [] → a ≡ none ++ entered P s b p r bit → c ≡ a ++ previous F p → d ≡ c ++ over F there → AreSame d (register_causes P s b T p r bit)
    same_register there none a c d is en ea ec ed =
        let E = entered P s b p r bit in
        let whole : d ≡ E ++ found = ed ∙ ap (λ (l : List ℕ). c ++ over F l) is ∙ ap (λ (l : List Cause). l ++ over F (at lists p)) (ec ∙ ap (λ (l : List Cause). l ++ previous F p) (ea ∙ ap (λ (l : List Cause). l ++ E) en)) ∙ append_assoc E (previous F p) (over F (at lists p)) in
        subst (λ (l : List Cause). AreSame l (E ++ firsts F count)) (sym whole) (same_right E found (firsts F count) same_carried)

-- of the number before
pub previous_none : (f : ℕ → List Cause) (p : ℕ) (list : List Cause) → p ≡ 0 → list ≡ list ++ previous f p
previous_none f p list e = sym (append-nil list) ∙ ap (λ (m : ℕ). list ++ previous f m) (sym e)

pub previous_some : (f : ℕ → List Cause) (p : ℕ) (list new : List Cause) → 0 < p → new ≡ list ++ f (p - 1) → new ≡ list ++ previous f p
previous_some f zero list new lt e = absurd (omega (arith, lt))
previous_some f (suc p) list new lt e = let same : suc p - 1 ≡ p = omega arith in e ∙ ap (λ (m : ℕ). list ++ f m) same

-- a body that isn't there has none
pub no_body_same : (P : Program) (s : List Qualifier) (tables : List Table) (b p r : ℕ) (bit : Bit) (list : List Cause) → length P.bodies ≤ b → list ≡ [] → AreSame list (causes P s tables (AtRegister b p r bit))
no_body_same P s tables b p r bit list le e = same_list list (causes P s tables (AtRegister b p r bit)) (no_body P s tables b p r bit list le e)

-- ---- the same of an analysis

pub stays_for : (P Q : Program) (b d : ℕ) → IsInferable P → b < length P.bodies → Q ≡ P → d ≡ b → StaysInside Q d
stays_for P Q b d h lt eq ed = subst (λ (x : Program). StaysInside x d) (sym eq) (subst (λ (n : ℕ). StaysInside P n) (sym ed) (h.inside b lt))

pub jumps_for : (P Q : Program) (b d : ℕ) (body : KnownBody) (jumps : List (List ℕ)) → IsKnown P b body → Q ≡ P → d ≡ b → jumps ≡ body.jumps → AreJumps (points_of (body_at Q d)) jumps
jumps_for P Q b d body jumps h eq ed ej =
    let points : points_of (body_at P b) ≡ points_of (body_at Q d) = ap (λ (n : ℕ). points_of (body_at P n)) (sym ed) ∙ ap (λ (x : Program). points_of (body_at x d)) (sym eq) in
    subst (AreJumps (points_of (body_at Q d))) (sym ej) (subst (λ (l : List Point). AreJumps l body.jumps) points h.jumps)
