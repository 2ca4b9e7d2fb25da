-- Whole rounds climb, so they end, and in the least table that respects all edges.
use Rattle.std.proofs.Common.{◌≡◌, ℕ, zero, suc, ◌+◌, ◌*◌, ◌≤◌, inl, inr, ⊎_elim, List, [], ◌∷◌, length, replicate, Option, Some, None, refl, sym, ap, ◌∙◌, subst, arith, length-set}
use Rattle.std.specs.Prelude.{slice_get, slice_set}
use Rattle.std.proofs.lemmas.List.{get_or-set_same}
use Rattle.jn_fixpoint.specs.Climb.{IsLeastFixpoint, Climb, Bounds}
use Rattle.jn_fixpoint.specs.Climb.{rounds as rounds_of}
use Rattle.jn_fixpoint.proofs.Fixpoint.{unique, exists, valid, above, below}
use Rattle.jn_points.specs.declared.point.Point.{Point}
use Rattle.jn_points.specs.declared.program.Program.{Program}
use Rattle.jn_points.specs.Edges.{edges_of}
use Rattle.jn_points.specs.Lookup.{points_of, regs_of, body_at}
use Rattle.jn_quals.specs.Qualifier.{Qualifier}
use Rattle.jn_env.specs.Environment.{Env}
use Rattle.jn_env.specs.Order.{Table, env_in, SlotWithin, TableWithin, join_env, join_slot}
use Rattle.jn_env.specs.Weight.{weight, quals_weight, bits_weight}
use Rattle.jn_env.proofs.Order.{env_refl, env_join_left, env_join_right, slot_trans, slot_join_least, table_refl, table_trans, table_at, table_set_within, table_set_above}
use Rattle.jn_env.proofs.Weight.{table_grows, quals_bounded, bits_bounded}
use Rattle.jn_env.specs.Keys.{fact_keys, own_keys}
use Rattle.jn_transfer.specs.Transfer.{transfer, entry_env, IsAmong}
use Rattle.jn_transfer.specs.Least.{flow_in, flow_all, edges_from, all_edges, round, rounds, start_table, IsLeastTable, Respects}
use Rattle.jn_env.specs.Sized.{EnvSized, Sized}
use Rattle.jn_transfer.specs.Sized.{Below, StaysInside}
use Rattle.jn_transfer.proofs.Monotone.{among_left, among_right, among_cases, edge_above}
use Rattle.jn_transfer.proofs.Sized.{edge_fine, entry_sized}
use Rattle.jn_tables_law.specs.Size.{IsTableOf, height}
use Rattle.jn_tables_law.specs.Fits.{EdgeFits, AllFit}
use Rattle.jn_tables_law.proofs.Sizes.{same_size, join_sized}

-- sizes
pub sized_at : (P : Program) (b : ℕ) (t : Table) (p : ℕ) (e : Env) → Sized P b t → env_in t p ≡ Some e → EnvSized P b e
sized_at P b [] p e s is = cc
sized_at P b (None ∷ t) zero e s is = cc
sized_at P b (None ∷ t) (suc p) e s is = sized_at P b t p e s is
sized_at P b (Some f ∷ t) zero e s is = let same : f ≡ e = cc in subst (λ g. EnvSized P b g) same s.0
sized_at P b (Some f ∷ t) (suc p) e s is = sized_at P b t p e s.1 is

pub sized_set : (P : Program) (b : ℕ) (t : Table) (p : ℕ) (e : Env) → Sized P b t → EnvSized P b e → Sized P b (slice_set t p (Some e))
sized_set P b [] p e s l = tt
sized_set P b (None ∷ t) zero e s l = (l, s)
sized_set P b (None ∷ t) (suc p) e s l = sized_set P b t p e s l
sized_set P b (Some f ∷ t) zero e s l = (l, s.1)
sized_set P b (Some f ∷ t) (suc p) e s l = (s.0, sized_set P b t p e s.1 l)

pub weight_bounded : (P : Program) (b : ℕ) (t : Table) → Sized P b t → weight t ≤ length t * (3 * regs_of (body_at P b) + length (fact_keys P b) + length (own_keys P b) + 1)
weight_bounded P b [] s = omega arith
weight_bounded P b (None ∷ t) s = let h = weight_bounded P b t s in omega arith
weight_bounded P b (Some e ∷ t) s =
    let h = weight_bounded P b t s.1 in
    let q : quals_weight e.quals ≤ 3 * regs_of (body_at P b) = subst (λ n. quals_weight e.quals ≤ 3 * n) s.0.quals (quals_bounded e.quals) in
    let f : bits_weight e.facts ≤ length (fact_keys P b) = subst (λ n. bits_weight e.facts ≤ n) s.0.facts (bits_bounded e.facts) in
    let g : bits_weight e.assigned ≤ length (own_keys P b) = subst (λ n. bits_weight e.assigned ≤ n) s.0.assigned (bits_bounded e.assigned) in
    omega arith

-- one edge
module _ (P : Program) (b : ℕ) (t : Table) (x : ℕ × Env) (s : Sized P b t) (f : EdgeFits P b (length t) x) where
  joined_above : (o : Option Env) → env_in t x.0 ≡ o → SlotWithin o (join_slot o x.1)
  joined_above None is = tt
  joined_above (Some e) is = env_join_left e x.1 (same_size P b e x.1 (sized_at P b t x.0 e s is) f.size)

  joined_has : (o : Option Env) → env_in t x.0 ≡ o → SlotWithin (Some x.1) (join_slot o x.1)
  joined_has None is = env_refl x.1
  joined_has (Some e) is = env_join_right e x.1 (same_size P b e x.1 (sized_at P b t x.0 e s is) f.size)

  joined_sized : (o : Option Env) → env_in t x.0 ≡ o → Sized P b (slice_set t x.0 (join_slot o x.1))
  joined_sized None is = sized_set P b t x.0 x.1 s f.size
  joined_sized (Some e) is = sized_set P b t x.0 (join_env e x.1) s (join_sized P b e x.1 (sized_at P b t x.0 e s is) f.size)

  pub flow_in_above : TableWithin t (flow_in x t)
  flow_in_above = table_set_above t x.0 (join_slot (env_in t x.0) x.1) (joined_above (env_in t x.0) refl)

  flow_in_has : SlotWithin (Some x.1) (env_in (flow_in x t) x.0)
  flow_in_has = subst (λ o. SlotWithin (Some x.1) o) (sym (get_or-set_same t x.0 (join_slot (env_in t x.0) x.1) None f.target)) (joined_has (env_in t x.0) refl)

  pub flow_in_sized : Sized P b (flow_in x t)
  flow_in_sized = joined_sized (env_in t x.0) refl

pub record Flowed (P : Program) (b n : ℕ) (xs : List (ℕ × Env)) (t u : Table) : Type 0 where
  pub above : TableWithin t u
  pub sized : Sized P b u
  pub long : length u ≡ n
  pub has : (x : ℕ × Env) → IsAmong x xs → SlotWithin (Some x.1) (env_in u x.0)

pub flow_all_has : (P : Program) (b n : ℕ) (xs : List (ℕ × Env)) (t : Table) → length t ≡ n → Sized P b t → AllFit P b n xs → Flowed P b n xs t (flow_all xs t)
flow_all_has P b n [] t l s f = record { above = table_refl t; sized = s; long = l; has = λ x m. absurd m }
flow_all_has P b n (y ∷ xs) t l s f =
    let fy : EdgeFits P b (length t) y = subst (λ m. EdgeFits P b m y) (sym l) (f y (inl refl)) in
    let l' = length-set t y.0 (join_slot (env_in t y.0) y.1) ∙ l in
    let r = flow_all_has P b n xs (flow_in y t) l' (flow_in_sized P b t y s fy) (λ x m. f x (inr m)) in
    record {
      above = table_trans t (flow_in y t) (flow_all xs (flow_in y t)) (flow_in_above P b t y s fy) r.above;
      sized = r.sized;
      long = r.long;
      has = λ x m. ⊎_elim (λ e. first r x e (flow_in_has P b t y s fy)) (λ h. r.has x h) m;
    }
  where
    first : Flowed P b n xs (flow_in y t) (flow_all xs (flow_in y t)) → (x : ℕ × Env) → x ≡ y → SlotWithin (Some y.1) (env_in (flow_in y t) y.0) → SlotWithin (Some x.1) (env_in (flow_all xs (flow_in y t)) x.0)
    first r x e h = subst (λ (z : ℕ × Env). SlotWithin (Some z.1) (env_in (flow_all xs (flow_in y t)) z.0)) (sym e) (slot_trans (Some y.1) (env_in (flow_in y t) y.0) (env_in (flow_all xs (flow_in y t)) y.0) h (table_at (flow_in y t) (flow_all xs (flow_in y t)) y.0 r.above))

flow_all_least : (xs : List (ℕ × Env)) (t u : Table) → TableWithin t u → ((x : ℕ × Env) → IsAmong x xs → SlotWithin (Some x.1) (env_in u x.0)) → TableWithin (flow_all xs t) u
flow_all_least [] t u w h = w
flow_all_least (y ∷ xs) t u w h =
    flow_all_least xs (flow_in y t) u (table_set_within t u y.0 (join_slot (env_in t y.0) y.1) w (slot_join_least (env_in t y.0) y.1 (env_in u y.0) (table_at t u y.0 w) (h y (inl refl)))) (λ x m. h x (inr m))

module _ (P : Program) (s : List Qualifier) (b : ℕ) where
  -- where an edge of the table comes from
  pub record Comes (points : List Point) (p0 : ℕ) (t : Table) (x : ℕ × Env) : Type 0 where
    pub k : ℕ
    pub pt : Point
    pub env : Env
    pub point : slice_get points k ≡ Some pt
    pub reached : env_in t (p0 + k) ≡ Some env
    pub edge : IsAmong x (transfer P s b pt.kind (p0 + k) env)

  comes_here : (pt : Point) (pts : List Point) (p : ℕ) (t : Table) (x : ℕ × Env) (o : Option Env) → env_in t p ≡ o → IsAmong x (edges_from P s b pt p o) → Comes (pt ∷ pts) p t x
  comes_here pt pts p t x None is m = absurd m
  comes_here pt pts p t x (Some e) is m =
      let here : p ≡ p + 0 = omega arith in
      record { k = 0; pt = pt; env = e; point = refl; reached = subst (λ n. env_in t n ≡ Some e) here is; edge = subst (λ n. IsAmong x (transfer P s b pt.kind n e)) here m }

  comes_later : (pt : Point) (pts : List Point) (p : ℕ) (t : Table) (x : ℕ × Env) → Comes pts (p + 1) t x → Comes (pt ∷ pts) p t x
  comes_later pt pts p t x c =
      let k = c.k in
      let next : (p + 1) + k ≡ p + suc k = omega arith in
      record { k = suc c.k; pt = c.pt; env = c.env; point = c.point; reached = subst (λ n. env_in t n ≡ Some c.env) next c.reached; edge = subst (λ n. IsAmong x (transfer P s b c.pt.kind n c.env)) next c.edge }

  pub comes : (points : List Point) (p : ℕ) (t : Table) (x : ℕ × Env) → IsAmong x (all_edges P s b points p t) → Comes points p t x
  comes [] p t x m = absurd m
  comes (pt ∷ pts) p t x m =
      ⊎_elim (λ h. comes_here pt pts p t x (env_in t p) refl h) (λ h. comes_later pt pts p t x (comes pts (p + 1) t x h)) (among_cases x (edges_from P s b pt p (env_in t p)) (all_edges P s b pts (p + 1) t) m)

  -- and each edge of a reached point is among them
  is_edge : (points : List Point) (p0 k : ℕ) (pt : Point) (e : Env) (t : Table) (x : ℕ × Env) → slice_get points k ≡ Some pt → env_in t (p0 + k) ≡ Some e → IsAmong x (transfer P s b pt.kind (p0 + k) e) → IsAmong x (all_edges P s b points p0 t)
  is_edge [] p0 k pt e t x at is m = cc
  is_edge (pt' ∷ pts) p0 zero pt e t x at is m =
      let here : p0 + 0 ≡ p0 = omega arith in
      let same : pt' ≡ pt = cc in
      among_left x (edges_from P s b pt' p0 (env_in t p0)) (all_edges P s b pts (p0 + 1) t)
      (subst (λ q. IsAmong x (edges_from P s b q p0 (env_in t p0))) (sym same)
      (subst (λ o. IsAmong x (edges_from P s b pt p0 o)) (sym (subst (λ n. env_in t n ≡ Some e) here is))
      (subst (λ n. IsAmong x (transfer P s b pt.kind n e)) here m)))
  is_edge (pt' ∷ pts) p0 (suc k) pt e t x at is m =
      let next : p0 + suc k ≡ (p0 + 1) + k = omega arith in
      among_right x (edges_from P s b pt' p0 (env_in t p0)) (all_edges P s b pts (p0 + 1) t)
      (is_edge pts (p0 + 1) k pt e t x at (subst (λ n. env_in t n ≡ Some e) next is) (subst (λ n. IsAmong x (transfer P s b pt.kind n e)) next m))

  -- the least table is the least fixpoint of the round above the start
  rounds_same : (n : ℕ) (t : Table) → rounds P s b n t ≡ rounds_of (round P s b) n t
  rounds_same zero t = refl
  rounds_same (suc n) t = ap (λ u. round P s b u) (rounds_same n t)

  pub is_fixpoint : (t : Table) → IsLeastTable P s b t → IsLeastFixpoint (round P s b) (start_table P s b) t
  is_fixpoint t is = record { turns = is.turns; made = is.made ∙ rounds_same is.turns (start_table P s b); stable = is.stable }

  pub fixpoint_is : (t : Table) → IsLeastFixpoint (round P s b) (start_table P s b) t → IsLeastTable P s b t
  fixpoint_is t is = record { turns = is.turns; made = is.made ∙ sym (rounds_same is.turns (start_table P s b)); stable = is.stable }

  -- it is the only one
  pub least_unique : (t u : Table) → IsLeastTable P s b t → IsLeastTable P s b u → t ≡ u
  least_unique t u is iu = unique (round P s b) (start_table P s b) t u (is_fixpoint t is) (is_fixpoint u iu)

  module _ (inside : StaysInside P b) where
    abbrev points : List Point
    points = points_of (body_at P b)

    pub edges_fine : (t : Table) → Sized P b t → AllFit P b (length points) (all_edges P s b points 0 t)
    edges_fine t l x m =
        let c = comes points 0 t x m in
        let k = c.k in
        let here : k ≡ 0 + k = omega arith in
        let fits = inside.edges c.k c.pt c.point in
        let f = edge_fine P s b (length points) c.pt.kind (0 + c.k) c.env x (subst (λ n. Below (length points) (edges_of c.pt.kind n).first × Below (length points) (edges_of c.pt.kind n).second) here fits) (sized_at P b t (0 + c.k) c.env l c.reached) c.edge in
        record { size = f.size; target = f.target }

    pub round_flows : (t : Table) → IsTableOf P b t → Flowed P b (length points) (all_edges P s b points 0 t) t (round P s b t)
    round_flows t v = flow_all_has P b (length points) (all_edges P s b points 0 t) t v.long v.sized (edges_fine t v.sized)

    pub round_table : (t : Table) → IsTableOf P b t → IsTableOf P b (round P s b t)
    round_table t v = let f = round_flows t v in record { long = f.long; sized = f.sized }

    pub climb : Climb (IsTableOf P b) TableWithin weight (height P b) (round P s b)
    climb = record {
      self = table_refl;
      chain = table_trans;
      lighter = λ t u w. (table_grows t u w).0;
      equal = λ t u w. (table_grows t u w).1;
      bounded = λ t v. subst (λ n. weight t ≤ n * (3 * regs_of (body_at P b) + length (fact_keys P b) + length (own_keys P b) + 1)) v.long (weight_bounded P b t v.sized);
      kept = round_table;
      climbs = λ t v. (round_flows t v).above;
    }

    -- the start
    abbrev unreached : ℕ → Table
    unreached n = replicate n None

    length-unreached : (n : ℕ) → length (unreached n) ≡ n
    length-unreached zero = refl
    length-unreached (suc n) = ap suc (length-unreached n)

    unreached_sized : (n : ℕ) → Sized P b (replicate n None)
    unreached_sized zero = tt
    unreached_sized (suc n) = unreached_sized n

    pub start_is_table : IsTableOf P b (start_table P s b)
    start_is_table = record {
      long = length-set (replicate (length points) None) 0 (Some (entry_env P s b)) ∙ length-unreached (length points);
      sized = sized_set P b (replicate (length points) None) 0 (entry_env P s b) (unreached_sized (length points)) (entry_sized P s b 0);
    }

    unreached_within : (u : Table) → TableWithin (replicate (length u) None) u
    unreached_within [] = tt
    unreached_within (a ∷ u) = (tt, unreached_within u)

    start_within : (u : Table) → length u ≡ length points → Respects P s b u → TableWithin (start_table P s b) u
    start_within u l r = table_set_within (replicate (length points) None) u 0 (Some (entry_env P s b)) (subst (λ n. TableWithin (replicate n None) u) l (unreached_within u)) r.entry

    -- no round leaves a table that respects all edges
    respecting_bounds : (u : Table) → Respects P s b u → Bounds (IsTableOf P b) TableWithin (round P s b) u
    respecting_bounds u r t v w = flow_all_least (all_edges P s b points 0 t) t u w (λ x m. within_u x (comes points 0 t x m))
      where
        under : (x : ℕ × Env) (c : Comes points 0 t x) (o : Option Env) → env_in u c.k ≡ o → SlotWithin (Some c.env) o → SlotWithin (Some x.1) (env_in u x.0)
        under x c None is h = absurd h
        under x c (Some f) is h =
            let k = c.k in
            let here : 0 + k ≡ k = omega arith in
            let a = edge_above P s b c.pt.kind c.k c.env f x h (subst (λ n. IsAmong x (transfer P s b c.pt.kind n c.env)) here c.edge) in
            slot_trans (Some x.1) (Some a.env) (env_in u x.0) a.above (r.edges c.k c.pt f c.point is (x.0, a.env) a.there)

        within_u : (x : ℕ × Env) → Comes points 0 t x → SlotWithin (Some x.1) (env_in u x.0)
        within_u x c =
            let k = c.k in
            let here : 0 + k ≡ k = omega arith in
            let at : env_in t c.k ≡ Some c.env = subst (λ n. env_in t n ≡ Some c.env) here c.reached in
            under x c (env_in u c.k) refl (subst (λ o. SlotWithin o (env_in u c.k)) at (table_at t u c.k w))

    -- there is one
    pub least_exists : IsLeastTable P s b (rounds_of (round P s b) (height P b) (start_table P s b))
    least_exists = fixpoint_is (rounds_of (round P s b) (height P b) (start_table P s b)) (exists (IsTableOf P b) TableWithin weight (height P b) (round P s b) climb (start_table P s b) start_is_table)

    pub least_is_table : (t : Table) → IsLeastTable P s b t → IsTableOf P b t
    least_is_table t is = valid (IsTableOf P b) TableWithin weight (height P b) (round P s b) climb (start_table P s b) t start_is_table (is_fixpoint t is)

    -- it is within every table that respects all edges
    pub least_least : (t u : Table) → IsLeastTable P s b t → length u ≡ length points → Respects P s b u → TableWithin t u
    least_least t u is l r = below (IsTableOf P b) TableWithin weight (height P b) (round P s b) climb (start_table P s b) t u start_is_table (is_fixpoint t is) (start_within u l r) (respecting_bounds u r)

    -- and respects them itself
    pub least_respects : (t : Table) → IsLeastTable P s b t → Respects P s b t
    least_respects t is =
        let v = least_is_table t is in
        let f = round_flows t v in
        let first : env_in (start_table P s b) 0 ≡ Some (entry_env P s b) = get_or-set_same (replicate (length points) None) 0 (Some (entry_env P s b)) None (let l = length-unreached (length points) in let h = inside.some in omega arith) in
        let over = above (IsTableOf P b) TableWithin weight (height P b) (round P s b) climb (start_table P s b) t start_is_table (is_fixpoint t is) in
        record {
          entry = subst (λ o. SlotWithin o (env_in t 0)) first (table_at (start_table P s b) t 0 over);
          edges = λ p pt e point reached x m.
              let here : p ≡ 0 + p = omega arith in
              subst (λ u. SlotWithin (Some x.1) (env_in u x.0)) is.stable (f.has x (is_edge points 0 p pt e t x point (subst (λ n. env_in t n ≡ Some e) here reached) (subst (λ n. IsAmong x (transfer P s b pt.kind n e)) here m)));
        }
