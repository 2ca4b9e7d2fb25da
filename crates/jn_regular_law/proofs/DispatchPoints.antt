-- Bodies of the example with virtual calls are regular, and no point of it has a row of base typing.
use Rattle.std.proofs.Common.{◌≡◌, ◌<◌, ◌≤◌, ◌+◌, ℕ, zero, suc, Bool, true, false, ◌⊎◌, inl, inr, [], ◌∷◌, Option, Some, refl, sym, subst, eqb, cond, arith}
use Rattle.jn_points.specs.declared.point.Operand.{Operand}
use Rattle.jn_points.specs.declared.point.Point.{Point}
use Rattle.jn_points.specs.declared.point.PointKind.{PointKind}
use Rattle.jn_points.specs.declared.point.PointKind.TheVariants.{CtorCall, Return}
use Rattle.jn_points.specs.declared.point.BaseType.TheVariants.{Null as NullBase}
use Rattle.jn_points.specs.declared.program.Body.{Body}
use Rattle.jn_points.specs.Edges.{edges_of}
use Rattle.jn_points.specs.Lookup.{body_of, body_at, method_at, point_at}
use Rattle.jn_points.specs.Operands.{operands}
use Rattle.jn_points.specs.Paths.{Reached}
use Rattle.jn_points.specs.Shaped.{LeadsTo}
use Rattle.jn_points.specs.BaseRows.{NoBaseRows, result_rows, type_rows}
use Rattle.jn_points.specs.Regular.{CtorCallAt, IsConcrete, Regular, RegularBody, RegularCtorCall, RegularPoint}
use Rattle.jn_soundness.specs.ExampleParts.{class_under, reg}
use Rattle.jn_soundness.specs.ChainExample.{body_of_method, ref}
use Rattle.jn_soundness.proofs.Finite.{each_at, points_each, some_is}
use Rattle.jn_regular_law.specs.DispatchExample.{dispatch_program, leaf_points, own_points}
use Rattle.jn_regular_law.proofs.Given.{EachAssigned, NoReturnTo, Straight, given_before, never_reached, next_edge, no_base_rows, no_edge, point, straight_call, written_before}
use Rattle.jn_regular_law.proofs.DispatchLists.{dispatch_classes, dispatch_fields, dispatch_implements, dispatch_methods, dispatch_pairs}

leaf : IsConcrete dispatch_program 4
leaf = (class_under 4 3 true, refl, refl, refl)

points : (b p : ℕ) (pt : Point) → point_at dispatch_program b p ≡ Some pt → RegularPoint dispatch_program b p pt.kind
points = points_each dispatch_program (λ b p pt. RegularPoint dispatch_program b p pt.kind) ((point dispatch_program 0 0 _ (record { reads = refl; written = refl; origin = refl; fields = refl; methods = refl; classes = refl; first = refl; second = refl }) tt tt tt (tt, tt) (λ s w. cc), tt), ((point dispatch_program 1 0 _ (record { reads = refl; written = refl; origin = refl; fields = refl; methods = refl; classes = refl; first = refl; second = refl }) tt refl tt (tt, tt) (λ s w. cc), (point dispatch_program 1 1 _ (record { reads = refl; written = refl; origin = refl; fields = refl; methods = refl; classes = refl; first = refl; second = refl }) tt tt tt (tt, tt) (λ s w. cc), tt)), ((point dispatch_program 2 0 _ (record { reads = refl; written = refl; origin = refl; fields = refl; methods = refl; classes = refl; first = refl; second = refl }) refl tt tt (tt, tt) (λ s w. cc), (point dispatch_program 2 1 _ (record { reads = refl; written = refl; origin = refl; fields = refl; methods = refl; classes = refl; first = refl; second = refl }) tt tt (refl, refl) (tt, tt) (λ s w. cc), (point dispatch_program 2 2 _ (record { reads = refl; written = refl; origin = refl; fields = refl; methods = refl; classes = refl; first = refl; second = refl }) tt tt tt (tt, tt) (λ s w. cc), tt))), ((point dispatch_program 3 0 _ (record { reads = refl; written = refl; origin = refl; fields = refl; methods = refl; classes = refl; first = refl; second = refl }) refl refl tt ((refl, refl, refl, λ e. omega (e, arith)), tt) (λ s w. cc), (point dispatch_program 3 1 _ (record { reads = refl; written = refl; origin = refl; fields = refl; methods = refl; classes = refl; first = refl; second = refl }) tt tt tt (tt, tt) (λ s w. cc), (point dispatch_program 3 2 _ (record { reads = refl; written = refl; origin = refl; fields = refl; methods = refl; classes = refl; first = refl; second = refl }) refl tt tt (tt, tt) (λ s w. cc), (point dispatch_program 3 3 _ (record { reads = refl; written = refl; origin = refl; fields = refl; methods = refl; classes = refl; first = refl; second = refl }) tt tt tt (tt, tt) (λ s w. cc), (point dispatch_program 3 4 _ (record { reads = refl; written = refl; origin = refl; fields = refl; methods = refl; classes = refl; first = refl; second = refl }) refl refl tt (tt, tt) (λ s w. cc), (point dispatch_program 3 5 _ (record { reads = refl; written = refl; origin = refl; fields = refl; methods = refl; classes = refl; first = refl; second = refl }) (refl, refl) tt (refl, refl, refl, refl) (tt, tt) (λ s w. cc), (point dispatch_program 3 6 _ (record { reads = refl; written = refl; origin = refl; fields = refl; methods = refl; classes = refl; first = refl; second = refl }) tt tt tt (tt, tt) (λ s w. cc), (point dispatch_program 3 7 _ (record { reads = refl; written = refl; origin = refl; fields = refl; methods = refl; classes = refl; first = refl; second = refl }) tt tt tt (tt, tt) (λ s w. cc), tt)))))))), ((point dispatch_program 4 0 _ (record { reads = refl; written = refl; origin = refl; fields = refl; methods = refl; classes = refl; first = refl; second = refl }) tt tt (refl, refl) (tt, tt) (λ s w. cc), (point dispatch_program 4 1 _ (record { reads = refl; written = refl; origin = refl; fields = refl; methods = refl; classes = refl; first = refl; second = refl }) tt tt tt (tt, tt) (λ s w. cc), tt)), ((point dispatch_program 5 0 _ (record { reads = refl; written = refl; origin = refl; fields = refl; methods = refl; classes = refl; first = refl; second = refl }) refl tt tt (tt, tt) (λ s w. cc), (point dispatch_program 5 1 _ (record { reads = refl; written = refl; origin = refl; fields = refl; methods = refl; classes = refl; first = refl; second = refl }) tt tt tt (tt, tt) (λ s w. cc), (point dispatch_program 5 2 _ (record { reads = refl; written = refl; origin = refl; fields = refl; methods = refl; classes = refl; first = refl; second = refl }) tt tt tt (tt, tt) (λ s w. cc), tt))), ((point dispatch_program 6 0 _ (record { reads = refl; written = refl; origin = refl; fields = refl; methods = refl; classes = refl; first = refl; second = refl }) refl tt tt (tt, tt) (λ s w. cc), (point dispatch_program 6 1 _ (record { reads = refl; written = refl; origin = refl; fields = refl; methods = refl; classes = refl; first = refl; second = refl }) tt refl tt (tt, tt) (λ s w. cc), (point dispatch_program 6 2 _ (record { reads = refl; written = refl; origin = refl; fields = refl; methods = refl; classes = refl; first = refl; second = refl }) refl tt (refl, leaf, refl) (tt, tt) (λ s w. cc), (point dispatch_program 6 3 _ (record { reads = refl; written = refl; origin = refl; fields = refl; methods = refl; classes = refl; first = refl; second = refl }) tt tt tt (tt, tt) (λ s w. cc), (point dispatch_program 6 4 _ (record { reads = refl; written = refl; origin = refl; fields = refl; methods = refl; classes = refl; first = refl; second = refl }) (refl, refl) tt (refl, refl, refl, refl) (tt, tt) (λ s w. cc), (point dispatch_program 6 5 _ (record { reads = refl; written = refl; origin = refl; fields = refl; methods = refl; classes = refl; first = refl; second = refl }) tt tt tt (tt, tt) (λ s w. cc), (point dispatch_program 6 6 _ (record { reads = refl; written = refl; origin = refl; fields = refl; methods = refl; classes = refl; first = refl; second = refl }) tt tt tt (tt, tt) (λ s w. cc), (point dispatch_program 6 7 _ (record { reads = refl; written = refl; origin = refl; fields = refl; methods = refl; classes = refl; first = refl; second = refl }) tt tt tt (tt, tt) (λ s w. cc), (point dispatch_program 6 8 _ (record { reads = refl; written = refl; origin = refl; fields = refl; methods = refl; classes = refl; first = refl; second = refl }) refl tt tt (tt, tt) (λ s w. cc), (point dispatch_program 6 9 _ (record { reads = refl; written = refl; origin = refl; fields = refl; methods = refl; classes = refl; first = refl; second = refl }) tt tt tt (tt, tt) (λ s w. cc), (point dispatch_program 6 10 _ (record { reads = refl; written = refl; origin = refl; fields = refl; methods = refl; classes = refl; first = refl; second = refl }) refl refl tt (tt, tt) (λ s w. cc), (point dispatch_program 6 11 _ (record { reads = refl; written = refl; origin = refl; fields = refl; methods = refl; classes = refl; first = refl; second = refl }) tt tt tt (tt, tt) (λ s w. cc), (point dispatch_program 6 12 _ (record { reads = refl; written = refl; origin = refl; fields = refl; methods = refl; classes = refl; first = refl; second = refl }) tt tt tt (tt, tt) (λ s w. cc), tt))))))))))))), tt)))))))

-- constructor calls: one of the own class, one of the parent

abbrev Calls : ℕ → ℕ → PointKind → Type 0
Calls b p (CtorCall m args own) = ((b ≡ 2) × (p ≡ 1) × (m.0 ≡ 2) × (own ≡ true)) ⊎ ((b ≡ 4) × (p ≡ 0) × (m.0 ≡ 3) × (own ≡ false))
Calls b p k = Unit {0}

two_calls : (b p : ℕ) (pt : Point) → point_at dispatch_program b p ≡ Some pt → Calls b p pt.kind
two_calls = points_each dispatch_program (λ b p pt. Calls b p pt.kind) ((tt, tt), ((tt, (tt, tt)), ((tt, (inl (refl, refl, refl, refl), (tt, tt))), ((tt, (tt, (tt, (tt, (tt, (tt, (tt, (tt, tt)))))))), ((inr (refl, refl, refl, refl), (tt, tt)), ((tt, (tt, (tt, tt))), ((tt, (tt, (tt, (tt, (tt, (tt, (tt, (tt, (tt, (tt, (tt, (tt, (tt, tt))))))))))))), tt)))))))

call_is : (b p ctor : ℕ) (own : Bool) → CtorCallAt dispatch_program b p ctor own → ((b ≡ 2) × (p ≡ 1) × (ctor ≡ 2) × (own ≡ true)) ⊎ ((b ≡ 4) × (p ≡ 0) × (ctor ≡ 3) × (own ≡ false))
call_is b p ctor own c = subst (Calls b p) c.calls (two_calls b p c.pt c.there)

own_straight : Straight dispatch_program 2
own_straight = each_at (λ q pt. (to : ℕ) → LeadsTo (edges_of pt.kind q) to → to ≡ q + 1) own_points (next_edge 1, (next_edge 2, (no_edge 3, tt)))

parent_straight : Straight dispatch_program 4
parent_straight = each_at (λ q pt. (to : ℕ) → LeadsTo (edges_of pt.kind q) to → to ≡ q + 1) leaf_points (next_edge 1, (no_edge 2, tt))

own_ends : NoReturnTo dispatch_program 2 1
own_ends = each_at (λ q pt. (v : Option Operand) → q ≤ 1 → pt.kind ≡ Return v → ⊥) own_points ((λ v l e. cc), ((λ v l e. cc), ((λ v l e. omega (l, arith)), tt)))

parent_ends : NoReturnTo dispatch_program 4 0
parent_ends = each_at (λ q pt. (v : Option Operand) → q ≤ 0 → pt.kind ≡ Return v → ⊥) leaf_points ((λ v l e. cc), ((λ v l e. omega (l, arith)), tt))

-- a constructor's rank is its number
own_call : RegularCtorCall dispatch_program (λ m. m) 2 1 2 true
own_call = straight_call dispatch_program (λ m. m) 2 1 2 true own_straight own_ends refl (λ q k o c. one 2 q k o (λ e. omega (e, arith)) (call_is 2 q k o c)) (λ h. refl) (λ h. cc) (λ x h e. some_is (λ x. 2 < x.method.0) (body_of_method 3 (ref 3 ∷ NullBase ∷ []) 1 own_points) x e (omega arith))
  where
    one : (b q k : ℕ) (o : Bool) → (b ≡ 4 → ⊥) → ((b ≡ 2) × (q ≡ 1) × (k ≡ 2) × (o ≡ true)) ⊎ ((b ≡ 4) × (q ≡ 0) × (k ≡ 3) × (o ≡ false)) → q ≡ 1
    one b q k o n (inl x) = x.1
    one b q k o n (inr x) = absurd (n x.0)

parent_call : RegularCtorCall dispatch_program (λ m. m) 4 0 3 false
parent_call = straight_call dispatch_program (λ m. m) 4 0 3 false parent_straight parent_ends refl (λ q k o c. one 4 q k o (λ e. omega (e, arith)) (call_is 4 q k o c)) (λ h. cc) (λ h. refl) (λ x h e. cc)
  where
    one : (b q k : ℕ) (o : Bool) → (b ≡ 2 → ⊥) → ((b ≡ 2) × (q ≡ 1) × (k ≡ 2) × (o ≡ true)) ⊎ ((b ≡ 4) × (q ≡ 0) × (k ≡ 3) × (o ≡ false)) → q ≡ 0
    one b q k o n (inl x) = absurd (n x.0)
    one b q k o n (inr x) = x.1

ctor_calls : (b p ctor : ℕ) (own : Bool) → CtorCallAt dispatch_program b p ctor own → RegularCtorCall dispatch_program (λ m. m) b p ctor own
ctor_calls b p ctor own c = by (call_is b p ctor own c)
  where
    moved : (c q k : ℕ) (o : Bool) → b ≡ c → p ≡ q → ctor ≡ k → own ≡ o → RegularCtorCall dispatch_program (λ m. m) c q k o → RegularCtorCall dispatch_program (λ m. m) b p ctor own
    moved c q k o eb ep ek eo h =
        subst (λ b. RegularCtorCall dispatch_program (λ m. m) b p ctor own) (sym eb)
        (subst (λ p. RegularCtorCall dispatch_program (λ m. m) c p ctor own) (sym ep) (subst (λ k. RegularCtorCall dispatch_program (λ m. m) c q k own) (sym ek) (subst (λ o. RegularCtorCall dispatch_program (λ m. m) c q k o) (sym eo) h)))

    by : ((b ≡ 2) × (p ≡ 1) × (ctor ≡ 2) × (own ≡ true)) ⊎ ((b ≡ 4) × (p ≡ 0) × (ctor ≡ 3) × (own ≡ false)) → RegularCtorCall dispatch_program (λ m. m) b p ctor own
    by (inl x) = moved 2 1 2 true x.0 x.1 x.2 x.3 own_call
    by (inr x) = moved 4 0 3 false x.0 x.1 x.2 x.3 parent_call

-- the method of a body
abbrev method_number : ℕ → ℕ
method_number b = cond (eqb b 0) 0 (b + 1)

own_body : (m b : ℕ) → body_of (method_at dispatch_program m) ≡ Some b → m ≡ method_number b
own_body zero b is = some_is (λ b. 0 ≡ method_number b) 0 b is refl
own_body (suc zero) b is = cc
own_body (suc (suc zero)) b is = some_is (λ b. 2 ≡ method_number b) 1 b is refl
own_body (suc (suc (suc zero))) b is = some_is (λ b. 3 ≡ method_number b) 2 b is refl
own_body (suc (suc (suc (suc zero)))) b is = some_is (λ b. 4 ≡ method_number b) 3 b is refl
own_body (suc (suc (suc (suc (suc zero))))) b is = some_is (λ b. 5 ≡ method_number b) 4 b is refl
own_body (suc (suc (suc (suc (suc (suc zero)))))) b is = some_is (λ b. 6 ≡ method_number b) 5 b is refl
own_body (suc (suc (suc (suc (suc (suc (suc zero))))))) b is = some_is (λ b. 7 ≡ method_number b) 6 b is refl
own_body (suc (suc (suc (suc (suc (suc (suc (suc m)))))))) b is = cc

bodies : (b : ℕ) (x : Body) → body_at dispatch_program b ≡ Some x → RegularBody dispatch_program (λ m. m) b x
bodies = each_at (λ b x. RegularBody dispatch_program (λ m. m) b x) dispatch_program.bodies (record { some = omega arith; few = omega arith; method = omega arith; its_own = λ m is. own_body m 0 is; of_method = refl; front = (refl, tt); given = omega arith; locals = omega arith; bases = ((omega arith, tt), tt); entry = refl; points = points 0; ctor_calls = ctor_calls 0; calls = λ c. inr (inl refl) }, (record { some = omega arith; few = omega arith; method = omega arith; its_own = λ m is. own_body m 1 is; of_method = refl; front = (refl, (refl, tt)); given = omega arith; locals = omega arith; bases = ((omega arith, tt), ((omega arith, tt), tt)); entry = refl; points = points 1; ctor_calls = ctor_calls 1; calls = λ c. inr (inr refl) }, (record { some = omega arith; few = omega arith; method = omega arith; its_own = λ m is. own_body m 2 is; of_method = refl; front = (refl, tt); given = omega arith; locals = omega arith; bases = ((omega arith, tt), (tt, tt)); entry = refl; points = points 2; ctor_calls = ctor_calls 2; calls = λ c. inl (1, 2, true, record { pt = _; args = reg 1 ∷ []; there = refl; calls = refl }) }, (record { some = omega arith; few = omega arith; method = omega arith; its_own = λ m is. own_body m 3 is; of_method = refl; front = (refl, tt); given = omega arith; locals = omega arith; bases = ((omega arith, tt), ((omega arith, tt), ((omega arith, tt), tt))); entry = refl; points = points 3; ctor_calls = ctor_calls 3; calls = λ c. cc }, (record { some = omega arith; few = omega arith; method = omega arith; its_own = λ m is. own_body m 4 is; of_method = refl; front = (refl, tt); given = omega arith; locals = omega arith; bases = ((omega arith, tt), tt); entry = refl; points = points 4; ctor_calls = ctor_calls 4; calls = λ c. inl (0, 3, false, record { pt = _; args = []; there = refl; calls = refl }) }, (record { some = omega arith; few = omega arith; method = omega arith; its_own = λ m is. own_body m 5 is; of_method = refl; front = (refl, tt); given = omega arith; locals = omega arith; bases = ((omega arith, tt), ((omega arith, tt), tt)); entry = refl; points = points 5; ctor_calls = ctor_calls 5; calls = λ c. cc }, (record { some = omega arith; few = omega arith; method = omega arith; its_own = λ m is. own_body m 6 is; of_method = refl; front = (refl, tt); given = omega arith; locals = omega arith; bases = ((omega arith, tt), ((omega arith, tt), ((omega arith, tt), (tt, ((omega arith, tt), ((omega arith, tt), (tt, tt))))))); entry = refl; points = points 6; ctor_calls = ctor_calls 6; calls = λ c. cc }, tt)))))))

pub dispatch_is_regular : Regular dispatch_program
dispatch_is_regular = record {
  few = record { classes = omega arith; fields = omega arith; methods = omega arith; bodies = omega arith; slots = omega arith };
  classes = dispatch_classes;
  fields = dispatch_fields;
  methods = dispatch_methods;
  pairs = dispatch_pairs;
  implements = dispatch_implements;
  ctor_rank = λ m. m;
  bodies = bodies;
}

assigned : (b p : ℕ) (pt : Point) → point_at dispatch_program b p ≡ Some pt → EachAssigned dispatch_program b p (operands pt.kind)
assigned = points_each dispatch_program (λ b p pt. EachAssigned dispatch_program b p (operands pt.kind)) ((tt, tt), (((given_before dispatch_program 1 0 _ (omega arith), (given_before dispatch_program 1 0 _ (omega arith), tt)), (tt, tt)), ((tt, ((written_before dispatch_program 2 1 _ (true ∷ []) refl refl refl, tt), (tt, tt))), (((given_before dispatch_program 3 0 _ (omega arith), tt), ((written_before dispatch_program 3 1 _ (true ∷ []) refl refl refl, tt), (tt, ((written_before dispatch_program 3 3 _ (true ∷ true ∷ true ∷ false ∷ true ∷ true ∷ []) refl refl refl, tt), ((given_before dispatch_program 3 4 _ (omega arith), tt), ((written_before dispatch_program 3 5 _ (true ∷ []) refl refl refl, tt), ((written_before dispatch_program 3 6 _ (true ∷ true ∷ true ∷ false ∷ true ∷ true ∷ []) refl refl refl, tt), (tt, tt)))))))), ((tt, (tt, tt)), ((tt, ((written_before dispatch_program 5 1 _ (true ∷ []) refl refl refl, tt), (tt, tt))), ((tt, ((written_before dispatch_program 6 1 _ (true ∷ []) refl refl refl, tt), (tt, ((written_before dispatch_program 6 3 _ (true ∷ true ∷ true ∷ []) refl refl refl, tt), ((written_before dispatch_program 6 4 _ (true ∷ true ∷ true ∷ true ∷ []) refl refl refl, tt), ((written_before dispatch_program 6 5 _ (true ∷ true ∷ true ∷ true ∷ true ∷ []) refl refl refl, tt), ((written_before dispatch_program 6 6 _ (true ∷ true ∷ true ∷ true ∷ true ∷ true ∷ []) refl refl refl, tt), (tt, (tt, ((written_before dispatch_program 6 9 _ (true ∷ true ∷ true ∷ true ∷ true ∷ true ∷ true ∷ true ∷ false ∷ false ∷ true ∷ true ∷ true ∷ []) refl refl refl, tt), (tt, ((written_before dispatch_program 6 11 _ (true ∷ []) refl refl refl, tt), (tt, tt))))))))))))), tt)))))))

no_types : (b p : ℕ) (pt : Point) → point_at dispatch_program b p ≡ Some pt → type_rows dispatch_program b pt.kind ≡ []
no_types = points_each dispatch_program (λ b p pt. type_rows dispatch_program b pt.kind ≡ []) ((refl, tt), ((refl, (refl, tt)), ((refl, (refl, (refl, tt))), ((refl, (refl, (refl, (refl, (refl, (refl, (refl, (refl, tt)))))))), ((refl, (refl, tt)), ((refl, (refl, (refl, tt))), ((refl, (refl, (refl, (refl, (refl, (refl, (refl, (refl, (refl, (refl, (refl, (refl, (refl, tt))))))))))))), tt)))))))

no_results : (b p : ℕ) (pt : Point) → point_at dispatch_program b p ≡ Some pt → Reached dispatch_program b p → result_rows dispatch_program b pt.kind ≡ []
no_results = points_each dispatch_program (λ b p pt. Reached dispatch_program b p → result_rows dispatch_program b pt.kind ≡ []) ((λ r. refl, tt), ((λ r. refl, (λ r. refl, tt)), ((λ r. refl, (λ r. refl, (λ r. refl, tt))), ((λ r. refl, (λ r. refl, (λ r. refl, (λ r. refl, (λ r. refl, (λ r. refl, (λ r. refl, (λ r. absurd (never_reached dispatch_program 3 (true ∷ true ∷ true ∷ true ∷ true ∷ true ∷ true ∷ []) refl refl 7 refl r), tt)))))))), ((λ r. refl, (λ r. refl, tt)), ((λ r. refl, (λ r. refl, (λ r. absurd (never_reached dispatch_program 5 (true ∷ true ∷ []) refl refl 2 refl r), tt))), ((λ r. refl, (λ r. refl, (λ r. refl, (λ r. refl, (λ r. refl, (λ r. refl, (λ r. refl, (λ r. refl, (λ r. refl, (λ r. absurd (never_reached dispatch_program 6 (true ∷ true ∷ true ∷ true ∷ true ∷ true ∷ true ∷ true ∷ false ∷ false ∷ true ∷ true ∷ true ∷ []) refl refl 9 refl r), (λ r. refl, (λ r. refl, (λ r. refl, tt))))))))))))), tt)))))))

pub dispatch_without_rows : NoBaseRows dispatch_program
dispatch_without_rows = no_base_rows dispatch_program no_types no_results assigned
