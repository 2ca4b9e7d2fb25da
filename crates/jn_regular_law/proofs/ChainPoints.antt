-- Bodies of the example with a chain of constructors are regular, and no point of it has a row of base typing.
use Rattle.std.proofs.Common.{◌≡◌, ◌≤◌, ◌+◌, ℕ, zero, suc, Bool, true, false, inl, inr, [], ◌∷◌, Option, Some, refl, sym, ◌∙◌, subst, arith}
use Rattle.jn_points.specs.declared.point.Operand.{Operand}
use Rattle.jn_points.specs.declared.point.Point.{Point}
use Rattle.jn_points.specs.declared.point.PointKind.{PointKind}
use Rattle.jn_points.specs.declared.point.PointKind.TheVariants.{CtorCall, Return}
use Rattle.jn_points.specs.declared.program.Body.{Body}
use Rattle.jn_points.specs.Edges.{edges_of}
use Rattle.jn_points.specs.Lookup.{body_of, body_at, method_at, point_at}
use Rattle.jn_points.specs.Operands.{operands}
use Rattle.jn_points.specs.Shaped.{LeadsTo}
use Rattle.jn_points.specs.BaseRows.{NoBaseRows, result_rows, type_rows}
use Rattle.jn_points.specs.Regular.{CtorCallAt, IsConcrete, Regular, RegularBody, RegularCtorCall, RegularPoint}
use Rattle.jn_soundness.specs.ExampleParts.{class_under}
use Rattle.jn_soundness.specs.ChainExample.{chain_program, third_points}
use Rattle.jn_soundness.proofs.Finite.{each_at, points_each}
use Rattle.jn_soundness.proofs.ChainTyping.{no_pairs}
use Rattle.jn_regular_law.proofs.Given.{EachAssigned, NoReturnTo, given_before, next_edge, no_base_rows, no_edge, point, straight_call, written_before}
use Rattle.jn_regular_law.proofs.ChainLists.{chain_classes, chain_fields, chain_implements, chain_methods}

class_a : IsConcrete chain_program 2
class_a = (class_under 2 0 false, refl, refl, refl)

class_b : IsConcrete chain_program 3
class_b = (class_under 3 2 false, refl, refl, refl)

points : (b p : ℕ) (pt : Point) → point_at chain_program b p ≡ Some pt → RegularPoint chain_program b p pt.kind
points = points_each chain_program (λ b p pt. RegularPoint chain_program b p pt.kind) ((point chain_program 0 0 _ (record { reads = refl; written = refl; origin = refl; fields = refl; methods = refl; classes = refl; first = refl; second = refl }) refl tt (refl, class_a, refl) (tt, tt) (λ s w. cc), (point chain_program 0 1 _ (record { reads = refl; written = refl; origin = refl; fields = refl; methods = refl; classes = refl; first = refl; second = refl }) tt refl tt (tt, tt) (λ s w. cc), (point chain_program 0 2 _ (record { reads = refl; written = refl; origin = refl; fields = refl; methods = refl; classes = refl; first = refl; second = refl }) tt tt tt (tt, tt) (λ s w. cc), tt))), ((point chain_program 1 0 _ (record { reads = refl; written = refl; origin = refl; fields = refl; methods = refl; classes = refl; first = refl; second = refl }) tt refl tt (tt, tt) (λ s w. cc), (point chain_program 1 1 _ (record { reads = refl; written = refl; origin = refl; fields = refl; methods = refl; classes = refl; first = refl; second = refl }) tt tt tt (tt, tt) (λ s w. cc), tt)), ((point chain_program 2 0 _ (record { reads = refl; written = refl; origin = refl; fields = refl; methods = refl; classes = refl; first = refl; second = refl }) tt tt (refl, refl) (tt, tt) (λ s w. cc), (point chain_program 2 1 _ (record { reads = refl; written = refl; origin = refl; fields = refl; methods = refl; classes = refl; first = refl; second = refl }) refl tt tt (tt, tt) (λ s w. cc), (point chain_program 2 2 _ (record { reads = refl; written = refl; origin = refl; fields = refl; methods = refl; classes = refl; first = refl; second = refl }) tt refl tt (tt, tt) (λ s w. cc), (point chain_program 2 3 _ (record { reads = refl; written = refl; origin = refl; fields = refl; methods = refl; classes = refl; first = refl; second = refl }) tt tt tt (tt, tt) (λ s w. cc), tt)))), ((point chain_program 3 0 _ (record { reads = refl; written = refl; origin = refl; fields = refl; methods = refl; classes = refl; first = refl; second = refl }) refl tt (refl, class_b, refl) (tt, tt) (λ s w. cc), (point chain_program 3 1 _ (record { reads = refl; written = refl; origin = refl; fields = refl; methods = refl; classes = refl; first = refl; second = refl }) refl tt tt (tt, tt) (λ s w. cc), (point chain_program 3 2 _ (record { reads = refl; written = refl; origin = refl; fields = refl; methods = refl; classes = refl; first = refl; second = refl }) (refl, refl) tt tt (tt, tt) (λ s w. cc), (point chain_program 3 3 _ (record { reads = refl; written = refl; origin = refl; fields = refl; methods = refl; classes = refl; first = refl; second = refl }) refl refl tt (tt, tt) (λ s w. cc), (point chain_program 3 4 _ (record { reads = refl; written = refl; origin = refl; fields = refl; methods = refl; classes = refl; first = refl; second = refl }) refl refl tt (tt, tt) (λ s w. cc), (point chain_program 3 5 _ (record { reads = refl; written = refl; origin = refl; fields = refl; methods = refl; classes = refl; first = refl; second = refl }) refl refl tt (tt, tt) (λ s w. cc), (point chain_program 3 6 _ (record { reads = refl; written = refl; origin = refl; fields = refl; methods = refl; classes = refl; first = refl; second = refl }) tt tt tt (tt, tt) (λ s w. cc), tt))))))), tt))))

-- every point leads to the next one alone
straight : (b p : ℕ) (pt : Point) → point_at chain_program b p ≡ Some pt → (to : ℕ) → LeadsTo (edges_of pt.kind p) to → to ≡ p + 1
straight = points_each chain_program (λ b p pt. (to : ℕ) → LeadsTo (edges_of pt.kind p) to → to ≡ p + 1) ((next_edge 1, (next_edge 2, (no_edge 3, tt))), ((next_edge 1, (no_edge 2, tt)), ((next_edge 1, (next_edge 2, (next_edge 3, (no_edge 4, tt)))), ((next_edge 1, (next_edge 2, (next_edge 3, (next_edge 4, (next_edge 5, (next_edge 6, (no_edge 7, tt))))))), tt))))

-- the one constructor call
abbrev CallsFirst : ℕ → ℕ → PointKind → Type 0
CallsFirst b p (CtorCall m args own) = (b ≡ 2) × (p ≡ 0) × (m.0 ≡ 0) × (own ≡ false)
CallsFirst b p k = Unit {0}

calls_first : (b p : ℕ) (pt : Point) → point_at chain_program b p ≡ Some pt → CallsFirst b p pt.kind
calls_first = points_each chain_program (λ b p pt. CallsFirst b p pt.kind) ((tt, (tt, (tt, tt))), ((tt, (tt, tt)), (((refl, refl, refl, refl), (tt, (tt, (tt, tt)))), ((tt, (tt, (tt, (tt, (tt, (tt, (tt, tt))))))), tt))))

call_is : (b p ctor : ℕ) (own : Bool) → CtorCallAt chain_program b p ctor own → (b ≡ 2) × (p ≡ 0) × (ctor ≡ 0) × (own ≡ false)
call_is b p ctor own c = subst (CallsFirst b p) c.calls (calls_first b p c.pt c.there)

no_rank : ℕ → ℕ
no_rank m = 0

no_return_first : NoReturnTo chain_program 2 0
no_return_first q pt is = each_at (λ q pt. (v : Option Operand) → q ≤ 0 → pt.kind ≡ Return v → ⊥) third_points ((λ v l e. cc), ((λ v l e. cc), ((λ v l e. cc), ((λ v l e. omega (l, arith)), tt)))) q pt is

the_call : RegularCtorCall chain_program no_rank 2 0 0 false
the_call = straight_call chain_program no_rank 2 0 0 false (straight 2) no_return_first refl (λ q k o c. (call_is 2 q k o c).1) (λ h. cc) (λ h. refl) (λ x h e. cc)

ctor_calls : (b p ctor : ℕ) (own : Bool) → CtorCallAt chain_program b p ctor own → RegularCtorCall chain_program no_rank b p ctor own
ctor_calls b p ctor own c =
    let x = call_is b p ctor own c in
    subst (λ b. RegularCtorCall chain_program no_rank b p ctor own) (sym x.0)
    (subst (λ p. RegularCtorCall chain_program no_rank 2 p ctor own) (sym x.1) (subst (λ k. RegularCtorCall chain_program no_rank 2 0 k own) (sym x.2) (subst (λ o. RegularCtorCall chain_program no_rank 2 0 0 o) (sym x.3) the_call)))

own_body : (m b : ℕ) → body_of (method_at chain_program m) ≡ Some b → m ≡ b
own_body zero b is = cc
own_body (suc zero) b is = cc
own_body (suc (suc zero)) b is = cc
own_body (suc (suc (suc zero))) b is = cc
own_body (suc (suc (suc (suc m)))) b is = cc

bodies : (b : ℕ) (x : Body) → body_at chain_program b ≡ Some x → RegularBody chain_program no_rank b x
bodies = each_at (λ b x. RegularBody chain_program no_rank b x) chain_program.bodies (record { some = omega arith; few = omega arith; method = omega arith; its_own = λ m is. own_body m 0 is; of_method = refl; front = (refl, tt); given = omega arith; locals = omega arith; bases = ((omega arith, tt), ((omega arith, tt), tt)); entry = refl; points = points 0; ctor_calls = ctor_calls 0; calls = λ c. inr (inr refl) }, (record { some = omega arith; few = omega arith; method = omega arith; its_own = λ m is. own_body m 1 is; of_method = refl; front = (refl, (refl, tt)); given = omega arith; locals = omega arith; bases = ((omega arith, tt), ((omega arith, tt), tt)); entry = refl; points = points 1; ctor_calls = ctor_calls 1; calls = λ c. inr (inr refl) }, (record { some = omega arith; few = omega arith; method = omega arith; its_own = λ m is. own_body m 2 is; of_method = refl; front = (refl, tt); given = omega arith; locals = omega arith; bases = ((omega arith, tt), ((omega arith, tt), tt)); entry = refl; points = points 2; ctor_calls = ctor_calls 2; calls = λ c. inl (0, 0, false, record { pt = _; args = []; there = refl; calls = refl }) }, (record { some = omega arith; few = omega arith; method = omega arith; its_own = λ m is. own_body m 3 is; of_method = refl; front = (refl, tt); given = omega arith; locals = omega arith; bases = ((omega arith, tt), ((omega arith, tt), ((omega arith, tt), ((omega arith, tt), tt)))); entry = refl; points = points 3; ctor_calls = ctor_calls 3; calls = λ c. cc }, tt))))

pub chain_is_regular : Regular chain_program
chain_is_regular = record {
  few = record { classes = omega arith; fields = omega arith; methods = omega arith; bodies = omega arith; slots = omega arith };
  classes = chain_classes;
  fields = chain_fields;
  methods = chain_methods;
  pairs = λ m k x y h is there. absurd (let bad : false ≡ true = sym (no_pairs m k) ∙ h in cc);
  implements = chain_implements;
  ctor_rank = no_rank;
  bodies = bodies;
}

assigned : (b p : ℕ) (pt : Point) → point_at chain_program b p ≡ Some pt → EachAssigned chain_program b p (operands pt.kind)
assigned = points_each chain_program (λ b p pt. EachAssigned chain_program b p (operands pt.kind)) (((given_before chain_program 0 0 _ (omega arith), tt), ((given_before chain_program 0 1 _ (omega arith), (written_before chain_program 0 1 _ (true ∷ []) refl refl refl, tt)), (tt, tt))), (((given_before chain_program 1 0 _ (omega arith), (given_before chain_program 1 0 _ (omega arith), tt)), (tt, tt)), ((tt, (tt, ((given_before chain_program 2 2 _ (omega arith), (written_before chain_program 2 2 _ (true ∷ true ∷ []) refl refl refl, tt)), (tt, tt)))), ((tt, (tt, ((written_before chain_program 3 2 _ (true ∷ true ∷ []) refl refl refl, tt), ((written_before chain_program 3 3 _ (true ∷ []) refl refl refl, tt), ((written_before chain_program 3 4 _ (true ∷ []) refl refl refl, tt), ((written_before chain_program 3 5 _ (true ∷ true ∷ true ∷ true ∷ true ∷ []) refl refl refl, tt), (tt, tt))))))), tt))))

no_types : (b p : ℕ) (pt : Point) → point_at chain_program b p ≡ Some pt → type_rows chain_program b pt.kind ≡ []
no_types = points_each chain_program (λ b p pt. type_rows chain_program b pt.kind ≡ []) ((refl, (refl, (refl, tt))), ((refl, (refl, tt)), ((refl, (refl, (refl, (refl, tt)))), ((refl, (refl, (refl, (refl, (refl, (refl, (refl, tt))))))), tt))))

no_results : (b p : ℕ) (pt : Point) → point_at chain_program b p ≡ Some pt → result_rows chain_program b pt.kind ≡ []
no_results = points_each chain_program (λ b p pt. result_rows chain_program b pt.kind ≡ []) ((refl, (refl, (refl, tt))), ((refl, (refl, tt)), ((refl, (refl, (refl, (refl, tt)))), ((refl, (refl, (refl, (refl, (refl, (refl, (refl, tt))))))), tt))))

pub chain_without_rows : NoBaseRows chain_program
chain_without_rows = no_base_rows chain_program no_types (λ b p pt is r. no_results b p pt is) assigned
