-- What soundness asks of a program, from its lists.
use Rattle.std.proofs.Common.{◌≡◌, ◌<◌, ℕ, Bool, true, false, length, Option, Some, None, refl, sym, subst}
use Rattle.std.specs.Prelude.{slice_get}
use Rattle.jn_base.specs.declared.number.PointNo.{PointNo}
use Rattle.jn_base.specs.declared.number.SlotNo.{SlotNo}
use Rattle.jn_points.specs.declared.point.BaseType.TheVariants.{Ref}
use Rattle.jn_points.specs.declared.point.Point.{Point}
use Rattle.jn_points.specs.declared.point.PointKind.{PointKind}
use Rattle.jn_points.specs.declared.point.PointKind.TheVariants.{CtorCall}
use Rattle.jn_points.specs.declared.program.Body.{Body}
use Rattle.jn_points.specs.declared.program.Field.{Field}
use Rattle.jn_points.specs.declared.program.SlotInfo.{SlotInfo}
use Rattle.jn_points.specs.declared.program.Program.{Program}
use Rattle.jn_points.specs.Edges.{edges_of}
use Rattle.jn_points.specs.Lookup.{points_of, class_of, body_at, field_info, method_at, method_in, point_at}
use Rattle.jn_points.specs.Members.{fits, sub}
use Rattle.jn_points.specs.BaseRows.{NoBaseRows}
use Rattle.jn_points.specs.BaseTyping.{BaseTyped}
use Rattle.jn_points.specs.Regular.{Below as InBody, IsParent, Regular, RegularPoint, SlotBelow}
use Rattle.jn_transfer.specs.Sized.{Below, StaysInside}
use Rattle.jn_soundness.proofs.Fits.{fits_self}
use Rattle.jn_soundness.proofs.Basics.{body_there}
use Rattle.jn_regular_law.proofs.Subtypes.{regular_order, under_parent}
use Rattle.jn_regular_law.proofs.Typed.{ThisFits, kind_typed, no_type_rows}
use Rattle.jn_regular_law.proofs.Bodies.{ctor_reg, ctor_this, pairs, starts, there_at}

below_is : (n : ℕ) (o : Option PointNo) → InBody n o → Below n o
below_is n None h = tt
below_is n (Some to) h = h

module _ (P : Program) (R : Regular P) where
  pub point_regular : (b p : ℕ) (pt : Point) → point_at P b p ≡ Some pt → RegularPoint P b p pt.kind
  point_regular b p pt is = let x = body_there P b p pt is in (R.bodies b x.0 x.1).points p pt is

  pub regular_slots : (f : ℕ) (x : Field) (n : SlotNo) → field_info P f ≡ Some x → x.slot ≡ Some n → (info : SlotInfo) × (slice_get P.slots n.0 ≡ Some info) × (info.inferred ≡ false → info.start.committed ≡ true)
  regular_slots f x n is slot =
      let low : n.0 < length P.slots = subst (λ o. SlotBelow (length P.slots) o) slot (R.fields f x is).slot_there in
      let t = there_at P.slots n.0 low in
      (t.0, t.1, λ w. ((R.fields f x is).slot_committed n t.0 slot t.1 w).0)

  pub regular_inside : (b : ℕ) → b < length P.bodies → StaysInside P b
  regular_inside b l = let t = there_at P.bodies b l in by t.0 t.1
    where
      by : (x : Body) → body_at P b ≡ Some x → StaysInside P b
      by x e = record {
        some = subst (λ o. 0 < length (points_of o)) (sym e) (R.bodies b x e).some;
        edges = λ p pt is.
            let r = ((R.bodies b x e).points p pt is).inside in
            (below_is (length (points_of (body_at P b))) (edges_of pt.kind p).first r.0, below_is (length (points_of (body_at P b))) (edges_of pt.kind p).second r.1);
      }

  -- `this` of a constructor is within the constructor that it calls
  this_fits : (b p : ℕ) (pt : Point) → point_at P b p ≡ Some pt → (k : PointKind) → pt.kind ≡ k → ThisFits P b k
  this_fits b p pt is (CtorCall m args own) e =
      let x = body_there P b p pt is in
      let r = (R.bodies b x.0 x.1).ctor_calls p m.0 own (record { pt = pt; args = args; there = is; calls = e }) in
      let this = (ctor_this P R b x.0 x.1 r.inside).0 in
      subst (λ t. fits P t (Ref (record { 0 = class_of (method_at P m.0) })) ≡ true) (sym this) (by own r.same r.above)
    where
      by : (own : Bool) → (own ≡ true → class_of (method_at P m.0) ≡ class_of (method_in P b)) → (own ≡ false → IsParent P (class_of (method_in P b)) (class_of (method_at P m.0))) → sub P (class_of (method_in P b)) (class_of (method_at P m.0)) ≡ true
      by true same above = subst (λ c. sub P (class_of (method_in P b)) c ≡ true) (sym (same refl)) (fits_self P (Ref (record { 0 = class_of (method_in P b) })))
      by false same above = under_parent P R.classes (class_of (method_in P b)) (record { 0 = class_of (method_at P m.0) }) (above refl)
  this_fits b p pt is k e = tt

  pub regular_typed : NoBaseRows P → BaseTyped P
  regular_typed none = record {
    ordered = regular_order P R.classes;
    parents = λ c x p is h. (R.classes.classes c x is).parent p h;
    points = λ b p pt is. let r = point_regular b p pt is in kind_typed P R.fields b pt.kind r.typed r.fields r.methods (this_fits b p pt is pt.kind refl) (no_type_rows P none b p pt is);
    starts = starts P R;
    ctor_reg = ctor_reg P R;
    pairs = pairs P R;
    mains = λ m x e h. ((R.methods m x e).main h).4;
  }
