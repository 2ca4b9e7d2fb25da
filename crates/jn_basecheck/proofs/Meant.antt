-- What the rows of points, registers and bodies mean.
use Rattle.std.proofs.Common.{ℕ, zero, suc, ◌≡◌, ◌<◌, ◌≤◌, ◌⊎◌, ◌↔◌, ◌&&◌, ◌∙◌, not, inl, inr, Bool, true, false, cond, ltb, List, [], ◌∷◌, ◌++◌, length, get_or, Option, Some, None, refl, sym, ap, subst, arith, Contains, slice_get}
use Rattle.std.proofs.lemmas.Bool.{ltb-true, lt-ltb}
use Rattle.std.proofs.lemmas.List.{get_or_past}
use Rattle.std.proofs.lemmas.Option.{slice_get_within, same_Some}
use Rattle.jn_base.specs.declared.place.Row.{Row}
use Rattle.jn_base.specs.declared.code.Code.TheVariants.{J8}
use Rattle.jn_points.specs.declared.point.BaseType.TheVariants.{Void}
use Rattle.jn_points.specs.declared.point.Operand.{Operand}
use Rattle.jn_points.specs.declared.point.Point.{Point}
use Rattle.jn_points.specs.declared.program.Body.{Body}
use Rattle.jn_points.specs.declared.program.Program.{Program}
use Rattle.jn_points.specs.Lookup.{points_of, regs_of, base_in, body_at, point_at, reg_base}
use Rattle.jn_points.specs.Operands.{operands}
use Rattle.jn_points.specs.Paths.{Reached}
use Rattle.jn_points.specs.BaseRows.{is_void, given, type_rows, result_rows, IsBaseRow, IsUnassigned}
use Rattle.jn_dataflow.specs.Problem.{slot_at}
use Rattle.jn_assigned.specs.Lacking.{is_lacking, TellsLacking}
use Rattle.jn_basecheck.specs.Rows.{Adds, Among, needs_write, is_unassigned, readings, TypeRowAt, ResultRowAt, UnassignedAt, BodyRow}
use Rattle.jn_basecheck.proofs.Gather.{adds_list}

module _ (P : Program) (b p : ℕ) (pt : Point) (there : point_at P b p ≡ Some pt) (old new : List Row) where
  pub types_here : new ≡ old ++ type_rows P b pt.kind → Adds (TypeRowAt P b p) old new
  types_here is = adds_list (TypeRowAt P b p) old new (type_rows P b pt.kind) is
      (λ row m. record { pt = pt; there = there; broken = m })
      (λ row q. subst (λ x. Contains (type_rows P b x.kind) row) (same_Some q.pt pt (sym q.there ∙ there)) q.broken)

  pub results_here : Reached P b p → new ≡ old ++ result_rows P b pt.kind → Adds (ResultRowAt P b p) old new
  results_here come is = adds_list (ResultRowAt P b p) old new (result_rows P b pt.kind) is
      (λ row m. record { pt = pt; there = there; reached = come; broken = m })
      (λ row q. subst (λ x. Contains (result_rows P b x.kind) row) (same_Some q.pt pt (sym q.there ∙ there)) q.broken)

pub none_in : (row : Row) → Contains [] row → ⊥
none_in row h = let lt : h.0 < 0 = h.1 in omega arith

in_first : {X : Type 0} (x : X) (xs : List X) → Contains (x ∷ xs) x
in_first x xs = (0, omega arith, refl)

in_rest : {X : Type 0} (x y : X) (xs : List X) → Contains xs y → Contains (x ∷ xs) y
in_rest x y xs h = let lt : h.0 < length xs = h.1 in (suc h.0, omega arith, h.2)

in_cases_at : {X : Type 0} (x y : X) (xs : List X) (k : ℕ) → k < length (x ∷ xs) → get_or (x ∷ xs) k y ≡ y → (x ≡ y) ⊎ Contains xs y
in_cases_at x y xs zero lt is = inl is
in_cases_at x y xs (suc k) lt is = inr (k, omega arith, is)

in_cases : {X : Type 0} (x y : X) (xs : List X) → Contains (x ∷ xs) y → (x ≡ y) ⊎ Contains xs y
in_cases x y xs h = in_cases_at x y xs h.0 h.1 h.2

body_there : (P : Program) (b p : ℕ) (pt : Point) (o : Option Body) → body_at P b ≡ o → point_at P b p ≡ Some pt → b < length P.bodies
body_there P b p pt None at' there =
    let none : p < length (points_of None) = slice_get_within (points_of None) p pt (subst (λ o. slice_get (points_of o) p ≡ Some pt) at' there) in
    absurd (omega arith)
body_there P b p pt (Some x) at' there = slice_get_within P.bodies b x at'

register_there : (o : Option Body) (r : ℕ) → is_void (base_in o r) ≡ false → regs_of o ≤ r → ⊥
register_there None r valued past = absurd cc
register_there (Some x) r valued past = let void : base_in (Some x) r ≡ Void = get_or_past x.regs r Void past in let yes : is_void (base_in (Some x) r) ≡ true = ap is_void void in absurd cc

pub below_or : (n r : ℕ) → (r < n) ⊎ (n ≤ r)
below_or zero r = inr (omega arith)
below_or (suc n) zero = inl (omega arith)
below_or (suc n) (suc r) = elim (below_or n r) [ inl lt ↦ inl (omega arith) | inr le ↦ inr (omega arith) ]

split_at : (n r : ℕ) → (n ≤ r → ⊥) → r < n
split_at n r inside = elim (below_or n r) [ inl lt ↦ lt | inr le ↦ absurd (inside le) ]

split_and : (c d : Bool) → (c && d) ≡ true → (c ≡ true) × (d ≡ true)
split_and true d e = (refl, e)
split_and false d e = absurd cc

not_true : (c : Bool) → not c ≡ true → c ≡ false
not_true true e = absurd cc
not_true false e = refl

-- what the test of a reading means
module _ (P : Program) (b p : ℕ) (t : List (Option (List Bool))) (tells : TellsLacking P b t) (there : p < length (points_of (body_at P b))) where
  given_below : (r : ℕ) → ltb r (given P b) ≡ false → given P b ≤ r
  given_below r e = elim (below_or (given P b) r) [ inl lt ↦ let yes : ltb r (given P b) ≡ true = lt-ltb r (given P b) lt in absurd cc | inr le ↦ le ]

  not_below : (r : ℕ) (c : Bool) → ltb r (given P b) ≡ c → given P b ≤ r → not c ≡ true
  not_below r true e le = let lt = ltb-true r (given P b) e in absurd (omega (arith, lt, le))
  not_below r false e le = refl

  unassigned_by : (a : Operand) → is_unassigned P b (slot_at t p) a.reg.0 ≡ true → IsUnassigned P b p a
  unassigned_by a e =
      let r = a.reg.0 in
      let lacks = split_and (is_lacking (slot_at t p) r) (needs_write P b r) e in
      let needs = split_and (not (ltb r (given P b))) (not (is_void (reg_base P b r))) lacks.1 in
      let valued = not_true (is_void (reg_base P b r)) needs.1 in
      record {
        valued = valued;
        local = given_below r (not_true (ltb r (given P b)) needs.0);
        lacks = (tells.lacking r p (split_at (regs_of (body_at P b)) r (register_there (body_at P b) r valued)) there).0 lacks.0;
      }

  by_unassigned : (a : Operand) → IsUnassigned P b p a → is_unassigned P b (slot_at t p) a.reg.0 ≡ true
  by_unassigned a u =
      let r = a.reg.0 in
      let lacks : is_lacking (slot_at t p) r ≡ true = (tells.lacking r p (split_at (regs_of (body_at P b)) r (register_there (body_at P b) r u.valued)) there).1 u.lacks in
      let local : not (ltb r (given P b)) ≡ true = not_below r (ltb r (given P b)) refl u.local in
      let valued : not (is_void (reg_base P b r)) ≡ true = ap not u.valued in
      rw lacks (rw local (rw valued refl))

  -- one of the operands is unassigned, and the row is its
  record Read (xs : List Operand) (row : Row) : Type 0 where
    operand : Operand
    among : Contains xs operand
    unassigned : is_unassigned P b (slot_at t p) operand.reg.0 ≡ true
    is : row ≡ record { span = operand.span; code = J8 }

  read_later : (x : Operand) (xs : List Operand) (row : Row) → Read xs row → Read (x ∷ xs) row
  read_later x xs row h = record { operand = h.operand; among = in_rest x h.operand xs h.among; unassigned = h.unassigned; is = h.is }

  read_first : (x : Operand) (xs : List Operand) (row : Row) (here : Bool) → is_unassigned P b (slot_at t p) x.reg.0 ≡ here → (Contains (readings P b (slot_at t p) xs) row → Read xs row) → Contains (cond here (record { span = x.span; code = J8 } ∷ readings P b (slot_at t p) xs) (readings P b (slot_at t p) xs)) row → Read (x ∷ xs) row
  read_first x xs row true here rest h = elim (in_cases (record { span = x.span; code = J8 }) row (readings P b (slot_at t p) xs) h) [
    | inl is ↦ record { operand = x; among = in_first x xs; unassigned = here; is = sym is }
    | inr later ↦ read_later x xs row (rest later)
  ]
  read_first x xs row false here rest h = read_later x xs row (rest h)

  read_by : (xs : List Operand) (row : Row) → Contains (readings P b (slot_at t p) xs) row → Read xs row
  read_by [] row h = absurd (none_in row h)
  read_by (x ∷ xs) row h = read_first x xs row (is_unassigned P b (slot_at t p) x.reg.0) refl (read_by xs row) h

  keep_later : (x : Operand) (xs : List Operand) (row : Row) (here : Bool) → Contains (readings P b (slot_at t p) xs) row → Contains (cond here (record { span = x.span; code = J8 } ∷ readings P b (slot_at t p) xs) (readings P b (slot_at t p) xs)) row
  keep_later x xs row true h = in_rest (record { span = x.span; code = J8 }) row (readings P b (slot_at t p) xs) h
  keep_later x xs row false h = h

  reading_first : (x a : Operand) (xs : List Operand) → x ≡ a → is_unassigned P b (slot_at t p) a.reg.0 ≡ true → Contains (readings P b (slot_at t p) (x ∷ xs)) (record { span = a.span; code = J8 })
  reading_first x a xs same found =
      let here : is_unassigned P b (slot_at t p) x.reg.0 ≡ true = ap (λ (o : Operand). is_unassigned P b (slot_at t p) o.reg.0) same ∙ found in
      subst (λ (o : Operand). Contains (readings P b (slot_at t p) (x ∷ xs)) (record { span = o.span; code = J8 })) same (rw here (in_first (record { span = x.span; code = J8 }) (readings P b (slot_at t p) xs)))

  read_in : (xs : List Operand) (a : Operand) → Contains xs a → is_unassigned P b (slot_at t p) a.reg.0 ≡ true → Contains (readings P b (slot_at t p) xs) (record { span = a.span; code = J8 })
  read_in [] a h found = let lt : h.0 < 0 = h.1 in absurd (omega arith)
  read_in (x ∷ xs) a h found = elim (in_cases x a xs h) [
    | inl same ↦ reading_first x a xs same found
    | inr later ↦ keep_later x xs (record { span = a.span; code = J8 }) (is_unassigned P b (slot_at t p) x.reg.0) (read_in xs a later found)
  ]

  pub readings_here : (pt : Point) → point_at P b p ≡ Some pt → (old new : List Row) → new ≡ old ++ readings P b (slot_at t p) (operands pt.kind) → Adds (UnassignedAt P b p) old new
  readings_here pt point old new is = adds_list (UnassignedAt P b p) old new (readings P b (slot_at t p) (operands pt.kind)) is
      (λ row m. let q = read_by (operands pt.kind) row m in record { pt = pt; operand = q.operand; there = point; read = q.among; unassigned = unassigned_by q.operand q.unassigned; is = q.is })
      (λ row q.
      let same = same_Some q.pt pt (sym q.there ∙ point) in
      subst (λ x. Contains (readings P b (slot_at t p) (operands pt.kind)) x) (sym q.is)
      (read_in (operands pt.kind) q.operand (subst (λ x. Contains (operands x.kind) q.operand) same q.read) (by_unassigned q.operand q.unassigned)))

module _ (P : Program) where
  point_within : (b p : ℕ) (pt : Point) → point_at P b p ≡ Some pt → p < length (points_of (body_at P b))
  point_within b p pt there = slice_get_within (points_of (body_at P b)) p pt there

  of_body : (b : ℕ) (row : Row) → BodyRow P b row → IsBaseRow P row
  of_body b row (inl q) = inl (record { b = b; p = q.0; pt = q.2.pt; there = q.2.there; broken = q.2.broken })
  of_body b row (inr (inl q)) = inr (inl (record { b = b; p = q.0; pt = q.2.pt; operand = q.2.operand; there = q.2.there; read = q.2.read; unassigned = q.2.unassigned; is = q.2.is }))
  of_body b row (inr (inr q)) = inr (inr (record { b = b; p = q.0; pt = q.2.pt; there = q.2.there; reached = q.2.reached; broken = q.2.broken }))

  in_body : (row : Row) → IsBaseRow P row → Among (BodyRow P) (length P.bodies) row
  in_body row (inl q) = (
    q.b,
    body_there P q.b q.p q.pt (body_at P q.b) refl q.there,
    inl (q.p, point_within q.b q.p q.pt q.there, record { pt = q.pt; there = q.there; broken = q.broken }),
  )
  in_body row (inr (inl q)) = (
    q.b,
    body_there P q.b q.p q.pt (body_at P q.b) refl q.there,
    inr (inl (q.p, point_within q.b q.p q.pt q.there, record { pt = q.pt; operand = q.operand; there = q.there; read = q.read; unassigned = q.unassigned; is = q.is })),
  )
  in_body row (inr (inr q)) = (
    q.b,
    body_there P q.b q.p q.pt (body_at P q.b) refl q.there,
    inr (inr (q.p, point_within q.b q.p q.pt q.there, record { pt = q.pt; there = q.there; reached = q.reached; broken = q.broken })),
  )

  pub base_rows : (rows : List Row) → Adds (Among (BodyRow P) (length P.bodies)) [] rows → (row : Row) → Contains rows row ↔ IsBaseRow P row
  base_rows rows adds row = (
    λ h. elim ((adds row).0 h) [ inl none ↦ absurd (none_in row none) | inr q ↦ of_body q.0 row q.2 ],
    λ h. (adds row).1 (inr (in_body row h)),
  )
