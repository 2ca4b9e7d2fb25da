-- Tests on a given program from which its regularity and its lack of rows of base typing follow.
use Rattle.std.proofs.Common.{◌≡◌, ◌<◌, ◌≤◌, ◌+◌, ℕ, zero, suc, Bool, true, false, not, ◌&&◌, ◌||◌, ◌⊎◌, inl, inr, List, [], ◌∷◌, length, Option, Some, None, refl, sym, ◌∙◌, subst, eqb, ltb, arith}
use Rattle.std.specs.Prelude.{slice_get, slice_index_or}
use Rattle.std.specs.List.{All, Contains}
use Rattle.std.proofs.lemmas.Bool.{eqb-true, ltb-true, and_parts}
use Rattle.std.proofs.lemmas.List.Elements.{All-contains, All-cons, All-nil}
use Rattle.jn_base.specs.declared.number.ClassNo.{ClassNo}
use Rattle.jn_base.specs.declared.number.PointNo.{PointNo}
use Rattle.jn_base.specs.declared.place.Row.{Row}
use Rattle.jn_points.specs.declared.point.Operand.{Operand}
use Rattle.jn_points.specs.declared.point.Point.{Point}
use Rattle.jn_points.specs.declared.point.PointKind.{PointKind}
use Rattle.jn_points.specs.declared.point.PointKind.TheVariants.{Return}
use Rattle.jn_points.specs.declared.program.Body.{Body}
use Rattle.jn_points.specs.declared.program.Program.{Program}
use Rattle.jn_points.specs.Edges.{edges_of}
use Rattle.jn_points.specs.Lookup.{body_at, class_of, ctor_of, locals_of, method_at, method_in, point_at, points_of, regs_of, static_of}
use Rattle.jn_points.specs.Members.{is_number, some_of}
use Rattle.jn_points.specs.Operands.{operands, regs_in, origin_reg, origin_in, fields_named, methods_named, classes_named}
use Rattle.jn_points.specs.Paths.{Avoids, Path, Step}
use Rattle.jn_points.specs.Shaped.{FromRead, IsAt, LeadsTo, test_at, writes}
use Rattle.jn_points.specs.BaseRows.{IsBaseRow, IsUnassigned, NoBaseRows, given, result_rows, type_rows}
use Rattle.jn_points.specs.Paths.{Reached}
use Rattle.jn_points.specs.Regular.{AllBelow, Below, CtorCallAt, IsParent, NamesFields, NamesMethods, RegularCtorCall, RegularPoint, Typed, register_if}

-- what holds of each listed class holds of one among them
abbrev pub EachSuper : (ℕ → Type 0) → List ClassNo → Type 0
EachSuper Q [] = Unit {0}
EachSuper Q (c ∷ cs) = Q c.0 × EachSuper Q cs

pub each_super : (Q : ℕ → Type 0) (xs : List ClassNo) → EachSuper Q xs → (s : ClassNo) → some_of (λ t. eqb t.0 s.0) xs ≡ true → Q s.0
each_super Q [] h s u = cc
each_super Q (c ∷ cs) h s u = by (eqb c.0 s.0) refl u (each_super Q cs h.1 s)
  where
    by : (t : Bool) → eqb c.0 s.0 ≡ t → (t || some_of (λ t. eqb t.0 s.0) cs) ≡ true → (some_of (λ t. eqb t.0 s.0) cs ≡ true → Q s.0) → Q s.0
    by true e u rest = subst Q (eqb-true c.0 s.0 e) h.0
    by false e u rest = rest u

pub next_edge : (n to : ℕ) → (n ≡ to) ⊎ ⊥ → to ≡ n
next_edge n to (inl e) = sym e
next_edge n to (inr e) = absurd e

pub no_edge : (n to : ℕ) → ⊥ ⊎ ⊥ → to ≡ n
no_edge n to (inl e) = absurd e
no_edge n to (inr e) = absurd e

-- ranges

abbrev pub all_under : ℕ → List ℕ → Bool
all_under n [] = true
all_under n (x ∷ xs) = ltb x n && all_under n xs

under_all : (n : ℕ) (xs : List ℕ) → all_under n xs ≡ true → AllBelow n xs
under_all n [] h = tt
under_all n (x ∷ xs) h = let p = and_parts (ltb x n) (all_under n xs) h in (ltb-true x n p.0, under_all n xs p.1)

abbrev pub is_under : ℕ → Option PointNo → Bool
is_under n None = true
is_under n (Some to) = ltb to.0 n

under_is : (n : ℕ) (o : Option PointNo) → is_under n o ≡ true → Below n o
under_is n None h = tt
under_is n (Some to) h = ltb-true to.0 n h

-- places that a path comes to without a write of the register, where there is one: from the entry on, over every edge of a point that doesn't write it

abbrev pub is_open : List Bool → ℕ → Bool
is_open bits p = slice_index_or bits p false

abbrev pub target_open : List Bool → Option PointNo → Bool
target_open bits None = true
target_open bits (Some to) = is_open bits to.0

abbrev pub writes_it : Option ℕ → PointKind → Bool
writes_it None k = false
writes_it (Some r) k = is_number (writes k) r

abbrev pub spreads_at : Option ℕ → List Bool → ℕ → PointKind → Bool
spreads_at o bits q k = not (is_open bits q) || (writes_it o k || (target_open bits (edges_of k q).first && target_open bits (edges_of k q).second))

abbrev pub spreads : Option ℕ → List Bool → ℕ → List Point → Bool
spreads o bits q [] = true
spreads o bits q (x ∷ xs) = spreads_at o bits q x.kind && spreads o bits (suc q) xs

spreads_there : (o : Option ℕ) (bits : List Bool) (q p n : ℕ) (xs : List Point) (x : Point) → n ≡ q + p → spreads o bits q xs ≡ true → slice_get xs p ≡ Some x → spreads_at o bits n x.kind ≡ true
spreads_there o bits q p n [] x e h is = cc
spreads_there o bits q zero n (y ∷ xs) x e h is =
    let same : y ≡ x = cc in
    let place : n ≡ q = omega (e, arith) in
    subst (λ n. spreads_at o bits n x.kind ≡ true) (sym place) (subst (λ y. spreads_at o bits q y.kind ≡ true) same (and_parts (spreads_at o bits q y.kind) (spreads o bits (suc q) xs) h).0)
spreads_there o bits q (suc p) n (y ∷ xs) x e h is = spreads_there o bits (suc q) p n xs x (omega (e, arith)) (and_parts (spreads_at o bits q y.kind) (spreads o bits (suc q) xs) h).1 is

target_at : (bits : List Bool) (o : Option PointNo) (to : ℕ) → target_open bits o ≡ true → IsAt o to → is_open bits to ≡ true
target_at bits None to h l = absurd l
target_at bits (Some n) to h l = subst (λ to. is_open bits to ≡ true) l h

spreads_on : (o : Option ℕ) (bits : List Bool) (q to : ℕ) (k : PointKind) → spreads_at o bits q k ≡ true → is_open bits q ≡ true → writes_it o k ≡ false → LeadsTo (edges_of k q) to → is_open bits to ≡ true
spreads_on o bits q to k h open' w l = by (is_open bits q) (writes_it o k) h open' w
  where
    leads : (target_open bits (edges_of k q).first ≡ true) × (target_open bits (edges_of k q).second ≡ true) → IsAt (edges_of k q).first to ⊎ IsAt (edges_of k q).second to → is_open bits to ≡ true
    leads t (inl a) = target_at bits (edges_of k q).first to t.0 a
    leads t (inr a) = target_at bits (edges_of k q).second to t.1 a

    by : (a c : Bool) → (not a || (c || (target_open bits (edges_of k q).first && target_open bits (edges_of k q).second))) ≡ true → a ≡ true → c ≡ false → is_open bits to ≡ true
    by false c h a w = cc
    by true true h a w = cc
    by true false h a w = leads (and_parts (target_open bits (edges_of k q).first) (target_open bits (edges_of k q).second) h) l

number_apart : (o : Option ℕ) (r : ℕ) → (o ≡ Some r → ⊥) → is_number o r ≡ false
number_apart None r n = refl
number_apart (Some k) r n = by (eqb k r) refl
  where
    by : (t : Bool) → eqb k r ≡ t → t ≡ false
    by false e = refl
    by true e = absurd (n (let same : k ≡ r = eqb-true k r e in subst (λ r. Some k ≡ Some r) same refl))

module _ (P : Program) where
  module _ (b : ℕ) (bits : List Bool) (entry : is_open bits 0 ≡ true) where
    lacks_open : (r : ℕ) → spreads (Some r) bits 0 (points_of (body_at P b)) ≡ true → (past : List ℕ) (p : ℕ) → Path P b past p → Avoids P b r past → is_open bits p ≡ true
    lacks_open r h [] p path avoids = subst (λ p. is_open bits p ≡ true) (sym path) entry
    lacks_open r h (q ∷ qs) p path avoids =
        let s : Step P b q p = path.0 in
        spreads_on (Some r) bits q p s.pt.kind (spreads_there (Some r) bits 0 q q (points_of (body_at P b)) s.pt (omega arith) h s.there) (lacks_open r h qs q path.1 avoids.1) (number_apart (writes s.pt.kind) r (avoids.0 s.pt s.there)) s.leads

    reached_open : spreads None bits 0 (points_of (body_at P b)) ≡ true → (past : List ℕ) (p : ℕ) → Path P b past p → is_open bits p ≡ true
    reached_open h [] p path = subst (λ p. is_open bits p ≡ true) (sym path) entry
    reached_open h (q ∷ qs) p path =
        let s : Step P b q p = path.0 in
        spreads_on None bits q p s.pt.kind (spreads_there None bits 0 q q (points_of (body_at P b)) s.pt (omega arith) h s.there) (reached_open h qs q path.1) refl s.leads

    pub never_reached : spreads None bits 0 (points_of (body_at P b)) ≡ true → (p : ℕ) → is_open bits p ≡ false → Reached P b p → ⊥
    never_reached h p closed r = let bad : true ≡ false = sym (reached_open h r.past p r.path) ∙ closed in cc

  abbrev pub Assigned : ℕ → ℕ → Operand → Type 0
  Assigned b p a = IsUnassigned P b p a → ⊥

  pub given_before : (b p : ℕ) (a : Operand) → a.reg.0 < given P b → Assigned b p a
  given_before b p a l u = let high : given P b ≤ a.reg.0 = u.local in omega (l, high, arith)

  -- no path comes to the place but past a write
  pub written_before : (b p : ℕ) (a : Operand) (bits : List Bool) → is_open bits 0 ≡ true → spreads (Some a.reg.0) bits 0 (points_of (body_at P b)) ≡ true → is_open bits p ≡ false → Assigned b p a
  written_before b p a bits entry h closed u = let bad : true ≡ false = sym (lacks_open b bits entry a.reg.0 h u.lacks.past p u.lacks.path u.lacks.avoids) ∙ closed in cc

  abbrev pub EachAssigned : ℕ → ℕ → List Operand → Type 0
  EachAssigned b p [] = Unit {0}
  EachAssigned b p (a ∷ as') = Assigned b p a × EachAssigned b p as'

  all_assigned : (b p : ℕ) (xs : List Operand) → EachAssigned b p xs → All (Assigned b p) xs
  all_assigned b p [] h = All-nil (Assigned b p)
  all_assigned b p (a ∷ as') h = All-cons (Assigned b p) a as' h.0 (all_assigned b p as' h.1)

  not_in : (row : Row) (xs : List Row) → xs ≡ [] → Contains xs row → ⊥
  not_in row xs e c = let none : Contains [] row = subst (λ xs. Contains xs row) e c in let l : none.0 < 0 = none.1 in omega (l, arith)

  pub no_base_rows :
      ((b p : ℕ) (pt : Point) → point_at P b p ≡ Some pt → type_rows P b pt.kind ≡ []) →
      ((b p : ℕ) (pt : Point) → point_at P b p ≡ Some pt → Reached P b p → result_rows P b pt.kind ≡ []) →
      ((b p : ℕ) (pt : Point) → point_at P b p ≡ Some pt → EachAssigned b p (operands pt.kind)) →
      NoBaseRows P
  no_base_rows types results assigned = by
    where
      by : (row : Row) → IsBaseRow P row → ⊥
      by row (inl t) = not_in row (type_rows P t.b t.pt.kind) (types t.b t.p t.pt t.there) t.broken
      by row (inr (inl u)) = All-contains (Assigned u.b u.p) (operands u.pt.kind) u.operand (all_assigned u.b u.p (operands u.pt.kind) (assigned u.b u.p u.pt u.there)) u.read u.unassigned
      by row (inr (inr r)) = not_in row (result_rows P r.b r.pt.kind) (results r.b r.p r.pt r.there r.reached) r.broken

  abbrev pub TestAfter : ℕ → PointKind → Option PointNo → Type 0
  TestAfter b k None = Unit {0}
  TestAfter b k (Some to) = FromRead k (test_at P b to.0)

  test_after : (b : ℕ) (k : PointKind) (o : Option PointNo) (to : ℕ) → TestAfter b k o → IsAt o to → FromRead k (test_at P b to)
  test_after b k None to h l = absurd l
  test_after b k (Some n) to h l = subst (λ to. FromRead k (test_at P b to)) l h

  pub record Ranged (b p : ℕ) (k : PointKind) : Type 0 where
    pub reads : all_under (regs_of (body_at P b)) (regs_in (operands k)) ≡ true
    pub written : all_under (regs_of (body_at P b)) (register_if (writes k)) ≡ true
    pub origin : all_under (locals_of (body_at P b)) (origin_reg (origin_in k)) ≡ true
    pub fields : all_under (length P.fields) (fields_named k) ≡ true
    pub methods : all_under (length P.methods) (methods_named k) ≡ true
    pub classes : all_under (length P.classes) (classes_named k) ≡ true
    pub first : is_under (length (points_of (body_at P b))) (edges_of k p).first ≡ true
    pub second : is_under (length (points_of (body_at P b))) (edges_of k p).second ≡ true

  pub point : (b p : ℕ) (k : PointKind) → Ranged b p k → Typed P b k → NamesFields P k → NamesMethods P k → TestAfter b k (edges_of k p).first × TestAfter b k (edges_of k p).second → (static_of (method_in P b) ≡ false → writes k ≡ Some 0 → ⊥) → RegularPoint P b p k
  point b p k r t f m after w = record {
    range = record {
      reads = under_all (regs_of (body_at P b)) (regs_in (operands k)) r.reads;
      written = under_all (regs_of (body_at P b)) (register_if (writes k)) r.written;
      origin = under_all (locals_of (body_at P b)) (origin_reg (origin_in k)) r.origin;
      fields = under_all (length P.fields) (fields_named k) r.fields;
      methods = under_all (length P.methods) (methods_named k) r.methods;
      classes = under_all (length P.classes) (classes_named k) r.classes;
    };
    inside = (under_is (length (points_of (body_at P b))) (edges_of k p).first r.first, under_is (length (points_of (body_at P b))) (edges_of k p).second r.second);
    typed = t;
    fields = f;
    methods = m;
    tests = λ to l. by to l;
    this_kept = w;
  }
    where
      by : (to : ℕ) → IsAt (edges_of k p).first to ⊎ IsAt (edges_of k p).second to → FromRead k (test_at P b to)
      by to (inl l) = test_after b k (edges_of k p).first to after.0 l
      by to (inr l) = test_after b k (edges_of k p).second to after.1 l

  -- a constructor call in a body whose points lead to the next one each

  abbrev pub Straight : ℕ → Type 0
  Straight b = (q : ℕ) (pt : Point) → point_at P b q ≡ Some pt → (to : ℕ) → LeadsTo (edges_of pt.kind q) to → to ≡ q + 1

  abbrev pub NoReturnTo : ℕ → ℕ → Type 0
  NoReturnTo b p = (q : ℕ) (pt : Point) → point_at P b q ≡ Some pt → (v : Option Operand) → q ≤ p → pt.kind ≡ Return v → ⊥

  pub straight_call : (ctor_rank : ℕ → ℕ) (b p ctor : ℕ) (own : Bool) → Straight b → NoReturnTo b p → ctor_of (method_in P b) ≡ true → ((q k : ℕ) (o : Bool) → CtorCallAt P b q k o → q ≡ p) → (own ≡ true → class_of (method_at P ctor) ≡ class_of (method_in P b)) → (own ≡ false → IsParent P (class_of (method_in P b)) (class_of (method_at P ctor))) → ((x : Body) → own ≡ true → body_at P b ≡ Some x → ctor_rank ctor < ctor_rank x.method.0) → RegularCtorCall P ctor_rank b p ctor own
  straight_call ctor_rank b p ctor own straight ends c one same above no_circle = record {
    inside = c;
    one = one;
    same = same;
    above = above;
    no_circle = no_circle;
    passed = λ q to pt is l e past. let n : to ≡ q + 1 = straight q pt is to e in omega (n, l, past, arith);
    back = λ q to pt is past e. let n : to ≡ q + 1 = straight q pt is to e in omega (n, past, arith);
    no_return = λ q pt v is l e. ends q pt is v l e;
  }
