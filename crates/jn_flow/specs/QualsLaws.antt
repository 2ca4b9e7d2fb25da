-- The dataflow problem of a body meets the laws.
use Rattle.std.proofs.Common.{◌≡◌, ℕ, ◌*◌, ◌<◌, ◌≤◌, Bool, true, false, IsTrue, ◌&&◌, eqb, inl, inr, ⊎_elim, List, [], ◌∷◌, length, Option, Some, None, refl, sym, ap, ◌∙◌, subst, arith, eq-eqb, eqb-true}
use Rattle.std.proofs.lemmas.Bool.{cases_lt}
use Rattle.jn_quals.specs.Qualifier.{Qualifier}
use Rattle.jn_points.specs.declared.point.Point.{Point}
use Rattle.jn_points.specs.declared.program.Program.{Program}
use Rattle.jn_points.specs.Lookup.{points_of, regs_of, body_at, point_at}
use Rattle.jn_env.specs.Environment.{Env}
use Rattle.jn_env.specs.Keys.{fact_keys, own_keys}
use Rattle.jn_env.specs.Order.{EnvWithin, join_env}
use Rattle.jn_env.specs.Size.{SameSize}
use Rattle.jn_env.specs.Sized.{EnvSized}
use Rattle.jn_env.specs.Weight.{quals_weight, bits_weight}
use Rattle.jn_env.proofs.Order.{env_refl, env_trans, env_join_left, env_join_right, env_join_least, length-join_quals, length-meet_bits}
use Rattle.jn_env.proofs.Weight.{slot_grows, env_antisym, quals_bounded, bits_bounded}
use Rattle.jn_transfer.specs.Transfer.{transfer, entry_env}
use Rattle.jn_transfer.specs.Transfer.{IsAmong as IsEdge}
use Rattle.jn_transfer.specs.Sized.{Below}
use Rattle.jn_points.specs.Edges.{edges_of}
use Rattle.jn_base.specs.declared.number.PointNo.{PointNo}
use Rattle.jn_points.specs.declared.leads.Edges.{Edges}
use Rattle.std.proofs.Props.{props}
use Rattle.std.proofs.Math.Path.{fun_ext}
use Rattle.jn_transfer.proofs.Sized.{Fine, edge_fine, entry_sized}
use Rattle.jn_dataflow.specs.Problem.{IsLawful, IsAmong}
use Rattle.jn_tables_law.proofs.Sizes.{same_size, join_sized}
use Rattle.jn_flow.specs.Quals.{is_sized, edges_after, qualifiers}

-- that all edges stay inside has one proof
below_prop : (n : ℕ) (o : Option PointNo) → IsProp (Below n o)
below_prop n None = Prim.hlevel props
below_prop n (Some to) = Prim.hlevel props

edges_prop : (n : ℕ) (e : Edges) → IsProp (Below n e.first × Below n e.second)
edges_prop n e x y = both (below_prop n e.first x.0 y.0) (below_prop n e.second x.1 y.1)
  where
    both : x.0 ≡ y.0 → x.1 ≡ y.1 → x ≡ y
    both h i = ap (λ z. (z, x.1)) h ∙ ap (λ z. (y.0, z)) i

-- all edges of the body stay in it
abbrev pub EdgesStay : Program → ℕ → Type 0
EdgesStay P b = (p : ℕ) (pt : Point) → point_at P b p ≡ Some pt → Below (length (points_of (body_at P b))) (edges_of pt.kind p).first × Below (length (points_of (body_at P b))) (edges_of pt.kind p).second

pub edges_stay_prop : (P : Program) (b : ℕ) → IsProp (EdgesStay P b)
edges_stay_prop P b f g = fun_ext (λ p. fun_ext (λ pt. fun_ext (λ h. edges_prop (length (points_of (body_at P b))) (edges_of pt.kind p) (f p pt h) (g p pt h))))

pub to_edge : (x : ℕ × Env) (xs : List (ℕ × Env)) → IsAmong x xs → IsEdge x xs
to_edge x [] m = m
to_edge x (y ∷ ys) (inl e) = inl e
to_edge x (y ∷ ys) (inr m) = inr (to_edge x ys m)

pub from_edge : (x : ℕ × Env) (xs : List (ℕ × Env)) → IsEdge x xs → IsAmong x xs
from_edge x [] m = m
from_edge x (y ∷ ys) (inl e) = inl e
from_edge x (y ∷ ys) (inr m) = inr (from_edge x ys m)

three : (c d e : Bool) → IsTrue (c && (d && e)) → (c ≡ true) × ((d ≡ true) × (e ≡ true))
three true true true v = (refl, (refl, refl))
three true true false v = absurd cc
three true false e v = absurd cc
three false d e v = absurd cc

all_three : (c d e : Bool) → c ≡ true → d ≡ true → e ≡ true → IsTrue (c && (d && e))
all_three true true true h i j = refl
all_three true true false h i j = absurd cc
all_three true false e h i j = absurd cc
all_three false d e h i j = absurd cc

module _ (P : Program) (s : List Qualifier) (b : ℕ) where
  pub sized_from : (e : Env) → IsTrue (is_sized P b e) → EnvSized P b e
  sized_from e v =
      let h = three (eqb (length e.quals) (regs_of (body_at P b))) (eqb (length e.facts) (length (fact_keys P b))) (eqb (length e.assigned) (length (own_keys P b))) v in
      record {
        quals = eqb-true (length e.quals) (regs_of (body_at P b)) h.0;
        facts = eqb-true (length e.facts) (length (fact_keys P b)) h.1.0;
        assigned = eqb-true (length e.assigned) (length (own_keys P b)) h.1.1;
      }

  pub to_sized : (e : Env) → EnvSized P b e → IsTrue (is_sized P b e)
  to_sized e h =
      all_three (eqb (length e.quals) (regs_of (body_at P b))) (eqb (length e.facts) (length (fact_keys P b))) (eqb (length e.assigned) (length (own_keys P b)))
      (eq-eqb (length e.quals) (regs_of (body_at P b)) h.quals)
      (eq-eqb (length e.facts) (length (fact_keys P b)) h.facts)
      (eq-eqb (length e.assigned) (length (own_keys P b)) h.assigned)

  -- joins
  pub like : (x y : Env) → IsTrue (is_sized P b x) → IsTrue (is_sized P b y) → SameSize x y
  like x y vx vy = same_size P b x y (sized_from x vx) (sized_from y vy)

  join_valid : (x y : Env) → IsTrue (is_sized P b x) → IsTrue (is_sized P b y) → IsTrue (is_sized P b (join_env x y))
  join_valid x y vx vy = to_sized (join_env x y) (join_sized P b x y (sized_from x vx) (sized_from y vy))

  join_swap : (x y : Env) → IsTrue (is_sized P b x) → IsTrue (is_sized P b y) → EnvWithin (join_env x y) (join_env y x)
  join_swap x y vx vy = env_join_least x y (join_env y x) (env_join_right y x (like y x vy vx)) (env_join_left y x (like y x vy vx))

  join_group : (x y z : Env) → IsTrue (is_sized P b x) → IsTrue (is_sized P b y) → IsTrue (is_sized P b z) → join_env (join_env x y) z ≡ join_env x (join_env y z)
  join_group x y z vx vy vz =
      let xy = join_env x y in
      let yz = join_env y z in
      let vxy = join_valid x y vx vy in
      let vyz = join_valid y z vy vz in
      let l = join_env xy z in
      let r = join_env x yz in
      env_antisym l r
      (env_join_least xy z r
      (env_join_least x y r (env_join_left x yz (like x yz vx vyz)) (env_trans y yz r (env_join_left y z (like y z vy vz)) (env_join_right x yz (like x yz vx vyz))))
      (env_trans z yz r (env_join_right y z (like y z vy vz)) (env_join_right x yz (like x yz vx vyz))))
      (env_join_least x yz l
      (env_trans x xy l (env_join_left x y (like x y vx vy)) (env_join_left xy z (like xy z vxy vz)))
      (env_join_least y z l (env_trans y xy l (env_join_right x y (like x y vx vy)) (env_join_left xy z (like xy z vxy vz))) (env_join_right xy z (like xy z vxy vz))))

  rises_by : (x y : Env) → IsTrue (is_sized P b x) → IsTrue (is_sized P b y) → (join_env x y ≡ x → ⊥) → (qualifiers P s b).weight x < (qualifiers P s b).weight (join_env x y)
  rises_by x y vx vy other =
      let g = slot_grows (Some x) (Some (join_env x y)) (env_join_left x y (like x y vx vy)) in
      ⊎_elim (λ lt. lt) (λ le. absurd (no (g.1 (omega (arith, le))))) (cases_lt ((qualifiers P s b).weight x) ((qualifiers P s b).weight (join_env x y)))
    where
      no : Some x ≡ Some (join_env x y) → ⊥
      no e = let same : x ≡ join_env x y = cc in other (sym same)

  top_by : (e : Env) → EnvSized P b e → (qualifiers P s b).weight e ≤ (qualifiers P s b).top
  top_by e h =
      let q : quals_weight e.quals ≤ 3 * regs_of (body_at P b) = subst (λ n. quals_weight e.quals ≤ 3 * n) h.quals (quals_bounded e.quals) in
      let f : bits_weight e.facts ≤ length (fact_keys P b) = subst (λ n. bits_weight e.facts ≤ n) h.facts (bits_bounded e.facts) in
      let g : bits_weight e.assigned ≤ length (own_keys P b) = subst (λ n. bits_weight e.assigned ≤ n) h.assigned (bits_bounded e.assigned) in
      omega (arith, q, f, g)

  module _ (stays : EdgesStay P b) where
    pub fine : (p : ℕ) (o : Option Point) → point_at P b p ≡ o → (e : Env) (x : ℕ × Env) → IsTrue (is_sized P b e) → IsAmong x (edges_after P s b o p e) → Fine P b (length (points_of (body_at P b))) x
    fine p None there e x v m = absurd m
    fine p (Some pt) there e x v m = edge_fine P s b (length (points_of (body_at P b))) pt.kind p e x (stays p pt there) (sized_from e v) (to_edge x (transfer P s b pt.kind p e) m)

    pub qualifiers_lawful : IsLawful (qualifiers P s b)
    qualifiers_lawful = record {
      starts = to_sized (entry_env P s b) (entry_sized P s b 0);
      inside = λ p e x lt v m. (fine p (point_at P b p) refl e x v m).target;
      carries = λ p e x lt v m. to_sized x.1 (fine p (point_at P b p) refl e x v m).size;
      joins = join_valid;
      same = λ x v. env_antisym (join_env x x) x (env_join_least x x x (env_refl x) (env_refl x)) (env_join_left x x (like x x v v));
      swap = λ x y vx vy. env_antisym (join_env x y) (join_env y x) (join_swap x y vx vy) (join_swap y x vy vx);
      group = join_group;
      rises = rises_by;
      bounded = λ x v. top_by x (sized_from x v);
    }
