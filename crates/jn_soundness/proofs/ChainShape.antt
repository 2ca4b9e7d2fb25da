-- The example with a chain of constructors is shaped as soundness asks, and has a main.
use Rattle.std.proofs.Common.{◌≡◌, ℕ, zero, suc, ◌<◌, Bool, true, false, ◌⊎◌, inl, inr, [], ◌∷◌, length, Some, None, refl, sym, subst, arith, eqb, ◌&&◌}
use Rattle.std.proofs.lemmas.Bool.{eq-eqb}
use Rattle.jn_quals.specs.Order.{committed_only}
use Rattle.jn_points.specs.declared.point.Point.{Point}
use Rattle.jn_points.specs.declared.point.PointKind.{PointKind}
use Rattle.jn_points.specs.declared.point.PointKind.TheVariants.{CtorCall, Return}
use Rattle.jn_points.specs.declared.program.Body.{Body}
use Rattle.jn_points.specs.Edges.{edges_of}
use Rattle.jn_points.specs.Lookup.{has_slot, is_ref_base, body_of, body_at, point_at, method_at, method_in, ctor_of, static_of, owner, regs_of}
use Rattle.jn_points.specs.Members.{has_field}
use Rattle.jn_points.specs.Shaped.{FromRead, NotCtorCall, writes, test_at, test_in, test_of, Early, IsObjectClass, Chains, SlotsMatch, LeadsTo, RegularEdge, RegularPoint, StartsRegular, Shaped, Names, Passes, NotEarlyReturn}
use Rattle.jn_heap.specs.Runs.{MainForm}
use Rattle.jn_soundness.specs.ExampleParts.{point_of, class_under, main_method, strings}
use Rattle.jn_soundness.specs.ChainExample.{chain_program, first_points, second_points, third_points, main_points, ref, body_of_method}
use Rattle.jn_soundness.proofs.Finite.{each_at, points_each}

-- constructor calls

abbrev CallsOnly : ℕ → ℕ → PointKind → Type 0
CallsOnly b p (CtorCall m args own) = (b ≡ 2) × (p ≡ 0)
CallsOnly b p k = Unit {0}

one_call : (b p : ℕ) (pt : Point) → point_at chain_program b p ≡ Some pt → CallsOnly b p pt.kind
one_call = points_each chain_program (λ b p pt. CallsOnly b p pt.kind)
    ((tt, (tt, (tt, tt))), ((tt, (tt, tt)), (((refl, refl), (tt, (tt, (tt, tt)))), ((tt, (tt, (tt, (tt, (tt, (tt, (tt, tt))))))), tt))))

early_at : (b p : ℕ) → Early chain_program b p → (b ≡ 2) × (p ≡ 0)
early_at b p e =
    let x : (b ≡ 2) × (e.place ≡ 0) = subst (CallsOnly b e.place) e.calls (one_call b e.place e.pt e.point) in
    (x.0, omega (x.1, e.before, arith))

no_test : (b p : ℕ) → test_at chain_program b p ≡ None
no_test b p = by (point_at chain_program b p) refl
  where
    all : (b p : ℕ) (pt : Point) → point_at chain_program b p ≡ Some pt → test_of pt.kind ≡ None
    all = points_each chain_program (λ b p pt. test_of pt.kind ≡ None)
        ((refl, (refl, (refl, tt))), ((refl, (refl, tt)), ((refl, (refl, (refl, (refl, tt)))), ((refl, (refl, (refl, (refl, (refl, (refl, (refl, tt))))))), tt))))

    by : (o : _) → point_at chain_program b p ≡ o → test_in o ≡ None
    by None is = refl
    by (Some pt) is = all b p pt is

pub free_entry : (b to : ℕ) (k : PointKind) → FromRead k (test_at chain_program b to)
free_entry b to k = subst (λ o. FromRead k o) (sym (no_test b to)) tt

edges_regular : (b p : ℕ) (k : PointKind) → ((b ≡ 2) × (p ≡ 0) → NotCtorCall k → ⊥) → (to : ℕ) → LeadsTo (edges_of k p) to → RegularEdge chain_program b p k to
edges_regular b p k h to l = record { test = free_entry b to k; early = λ n e. absurd (h (early_at b p e) n) }

elsewhere : (b p : ℕ) → (eqb b 2 && eqb p 0) ≡ false → (b ≡ 2) × (p ≡ 0) → ⊥
elsewhere b p h x = by (eqb b 2) (eqb p 0) (eq-eqb b 2 x.0) (eq-eqb p 0 x.1) h
  where
    by : (t u : Bool) → t ≡ true → u ≡ true → (t && u) ≡ false → ⊥
    by true true a c h = cc
    by true false a c h = cc
    by false u a c h = cc

module _ (b p : ℕ) (away : (eqb b 2 && eqb p 0) ≡ false) where
  no_early : Early chain_program b p → ⊥
  no_early e = elsewhere b p away (early_at b p e)

  -- a point at which no constructor is called by a constructor
  point_regular : (k : PointKind) → (ctor_of (method_in chain_program b) ≡ true → writes k ≡ Some 0 → ⊥) → Names chain_program b k → Passes chain_program k → RegularPoint chain_program b p k
  point_regular k w n a = record {
    edges = edges_regular b p k (λ x n. elsewhere b p away x);
    this_kept = w;
    names = n;
    passes = a;
    end = λ c. ending k;
  }
    where
      ending : (k : PointKind) → NotEarlyReturn chain_program b p k
      ending (Return v) = no_early
      ending k = tt

class_a : IsObjectClass chain_program 2
class_a = record { info = class_under 2 0 false; there = refl; class = refl; no_string = refl }

class_b : IsObjectClass chain_program 3
class_b = record { info = class_under 3 2 false; there = refl; class = refl; no_string = refl }

-- fields

own_fields : (f : ℕ) → has_field chain_program 2 f ≡ true → owner chain_program f ≡ 2
own_fields zero h = refl
own_fields (suc zero) h = cc
own_fields (suc (suc f)) h = cc

chained : Chains chain_program 2 0 false
chained = record { ctor = refl; inside = refl; same = λ h. cc; fields = fields }
  where
    fields : (f : ℕ) → has_field chain_program 3 f ≡ true → (owner chain_program f ≡ 3) ⊎ (has_field chain_program 2 f ≡ true)
    fields zero h = inr refl
    fields (suc zero) h = inl refl
    fields (suc (suc f)) h = cc

points : (b p : ℕ) (pt : Point) → point_at chain_program b p ≡ Some pt → RegularPoint chain_program b p pt.kind
points = points_each chain_program (λ b p pt. RegularPoint chain_program b p pt.kind) (
  (point_regular 0 0 refl _ (λ c w. cc) (refl, class_a) refl, (point_regular 0 1 refl _ (λ c w. cc) tt tt, (point_regular 0 2 refl _ (λ c w. cc) tt tt, tt))),
  (
    (point_regular 1 0 refl _ (λ c w. cc) tt tt, (point_regular 1 1 refl _ (λ c w. cc) tt tt, tt)),
    (
      (
        record { edges = edges_regular 2 0 (CtorCall (record { 0 = 0 }) [] false) (λ x n. n); this_kept = λ c w. cc; names = chained; passes = refl; end = λ c. tt },
        (point_regular 2 1 refl _ (λ c w. cc) tt tt, (point_regular 2 2 refl _ (λ c w. cc) tt tt, (point_regular 2 3 refl _ (λ c w. cc) tt tt, tt))),
      ),
      ((point_regular 3 0 refl _ (λ c w. cc) (refl, class_b) refl, (point_regular 3 1 refl _ (λ c w. cc) tt tt, (point_regular 3 2 refl _ (λ c w. cc) tt tt, (point_regular 3 3 refl _ (λ c w. cc) tt tt, (point_regular 3 4 refl _ (λ c w. cc) tt tt, (point_regular 3 5 refl _ (λ c w. cc) tt tt, (point_regular 3 6 refl _ (λ c w. cc) tt tt, tt))))))), tt),
    ),
  ),
)

starts : (b : ℕ) → StartsRegular chain_program b
starts zero c = inr own_fields
starts (suc zero) c = inr own_fields
starts (suc (suc zero)) c = inl (record { place = 0; pt = point_of (CtorCall (record { 0 = 0 }) [] false); ctor = record { 0 = 0 }; args = []; own = false; point = refl; calls = refl; before = omega arith })
starts (suc (suc (suc zero))) c = cc
starts (suc (suc (suc (suc b)))) c = cc

-- bodies and constructors
bodies : (m b : ℕ) → body_of (method_at chain_program m) ≡ Some b → (x : Body) × (body_at chain_program b ≡ Some x) × (x.method.0 ≡ m)
bodies zero b is = let same : 0 ≡ b = cc in subst (λ b. (x : Body) × (body_at chain_program b ≡ Some x) × (x.method.0 ≡ 0)) same (body_of_method 0 (ref 2 ∷ ref 2 ∷ []) 1 first_points, refl, refl)
bodies (suc zero) b is = let same : 1 ≡ b = cc in subst (λ b. (x : Body) × (body_at chain_program b ≡ Some x) × (x.method.0 ≡ 1)) same (body_of_method 1 (ref 2 ∷ ref 2 ∷ []) 2 second_points, refl, refl)
bodies (suc (suc zero)) b is = let same : 2 ≡ b = cc in subst (λ b. (x : Body) × (body_at chain_program b ≡ Some x) × (x.method.0 ≡ 2)) same (body_of_method 2 (ref 3 ∷ ref 1 ∷ []) 1 third_points, refl, refl)
bodies (suc (suc (suc zero))) b is = let same : 3 ≡ b = cc in subst (λ b. (x : Body) × (body_at chain_program b ≡ Some x) × (x.method.0 ≡ 3)) same (body_of_method 3 (strings ∷ ref 3 ∷ ref 1 ∷ ref 2 ∷ []) 4 main_points, refl, refl)
bodies (suc (suc (suc (suc m)))) b is = cc

ctor_this : (m : ℕ) → ctor_of (method_at chain_program m) ≡ true → static_of (method_at chain_program m) ≡ false
ctor_this zero c = refl
ctor_this (suc zero) c = refl
ctor_this (suc (suc zero)) c = refl
ctor_this (suc (suc (suc zero))) c = cc
ctor_this (suc (suc (suc (suc m)))) c = cc

ctor_regs : (b : ℕ) → ctor_of (method_in chain_program b) ≡ true → (n : ℕ) × (regs_of (body_at chain_program b) ≡ suc n)
ctor_regs zero c = (1, refl)
ctor_regs (suc zero) c = (1, refl)
ctor_regs (suc (suc zero)) c = (1, refl)
ctor_regs (suc (suc (suc zero))) c = cc
ctor_regs (suc (suc (suc (suc b)))) c = cc

-- the whole
pub chain_regular : Shaped chain_program
chain_regular = record {
  bodies = bodies;
  entered = each_at (λ b x. 0 < length x.points) chain_program.bodies (omega arith, (omega arith, (omega arith, (omega arith, tt))));
  entry_test = λ b. no_test b 0;
  entry_early = starts;
  points = points;
  ctor_this = ctor_this;
  ctor_regs = ctor_regs;
  fields = each_at (λ f x. has_slot x.slot ≡ is_ref_base x.base) chain_program.fields (refl, (refl, tt));
  params = each_at (λ m x. SlotsMatch x.param_slots x.params) chain_program.methods (tt, ((refl, tt), (tt, ((refl, tt), tt))));
  mains = each_at (λ m x. x.is_main ≡ true → (x.ctor ≡ false) × (x.is_static ≡ true)) chain_program.methods ((λ h. cc), ((λ h. cc), ((λ h. cc), ((λ h. (refl, refl)), tt))));
}

-- its main
pub chain_main : MainForm chain_program 3 3
chain_main = record { method = main_method 3 3 3; there = refl; is_main = refl; body = refl; slot = record { 0 = 3 }; info = record { start = committed_only; inferred = false }; param = refl; start = refl; written = refl; committed = refl }
