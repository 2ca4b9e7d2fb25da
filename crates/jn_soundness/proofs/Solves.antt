-- Under a closed signature what is written into a field is allowed by its slot, so a program without a row is accepted.
use Rattle.std.proofs.Common.{◌≡◌, ℕ, Bool, true, false, cond, inl, [], ◌∷◌, Option, Some, None, refl, sym, ap, ◌∙◌, subst}
use Rattle.std.specs.Prelude.{slice_get}
use Rattle.jn_base.specs.declared.number.SlotNo.{SlotNo}
use Rattle.jn_base.specs.declared.number.FieldNo.{FieldNo}
use Rattle.jn_quals.specs.Qualifier.{Qualifier}
use Rattle.jn_quals.specs.Order.{settle}
use Rattle.jn_points.specs.declared.point.Operand.{Operand}
use Rattle.jn_points.specs.declared.point.Point.{Point}
use Rattle.jn_points.specs.declared.point.PointKind.{PointKind}
use Rattle.jn_points.specs.declared.point.PointKind.TheVariants.{FieldWrite}
use Rattle.jn_points.specs.declared.program.Field.{Field}
use Rattle.jn_points.specs.declared.program.SlotInfo.{SlotInfo}
use Rattle.jn_points.specs.Lookup.{has_slot, ref_of, point_at, field_info}
use Rattle.jn_sigs.specs.Signature.{slot_qual, field_qual_of}
use Rattle.jn_env.specs.Environment.{Env}
use Rattle.jn_env.specs.Order.{qual_at}
use Rattle.jn_transfer.specs.Contributions.{is_inferred, field_slot_of, IsSent, sends, kind_sends}
use Rattle.jn_soundness.specs.World.{World, env_at}
use Rattle.jn_soundness.specs.Accepted.{FieldSettles, Accepted}
use Rattle.jn_soundness.specs.Solved.{Solved}
use Rattle.jn_soundness.proofs.Basics.{within_committed}

module _ (W : World) (S : Solved W) where
  module _ (b p : ℕ) (pt : Point) (e : Env) (is : point_at W.program b p ≡ Some pt) (reached : env_at W b p ≡ Some e) where
    module _ (r v : Operand) (f : FieldNo) (kind : pt.kind ≡ FieldWrite r f v) (written : (settle (qual_at e v.reg.0)).committed ≡ true) where
      in_slot : (x : Field) (n : SlotNo) → field_info W.program f.0 ≡ Some x → x.slot ≡ Some n → (slot_qual W.sig (Some n)).committed ≡ true
      in_slot x n io so = let i = S.slots f.0 x n io so in by i.0 i.1 i.2 i.0.inferred refl
        where
          by : (info : SlotInfo) → slice_get W.program.slots n.0 ≡ Some info → (info.inferred ≡ false → info.start.committed ≡ true) → (t : Bool) → info.inferred ≡ t → (slot_qual W.sig (Some n)).committed ≡ true
          by info ii start false t = within_committed info.start (slot_qual W.sig (Some n)) (S.starts n.0 info ii t) (start t)
          by info ii start true t =
              let q : Qualifier = settle (qual_at e v.reg.0) in
              let inferred : is_inferred (slice_get W.program.slots n.0) ≡ true = ap is_inferred ii ∙ t in
              let slot : field_slot_of (field_info W.program f.0) ≡ Some n = ap field_slot_of io ∙ so in
              let here : IsSent (n.0, q) (sends W.program (Some n) q) = subst (λ t. IsSent (n.0, q) (cond t ((n.0, q) ∷ []) [])) (sym inferred) (inl refl) in
              let sent : IsSent (n.0, q) (kind_sends W.program b e (FieldWrite r f v)) = subst (λ s. IsSent (n.0, q) (sends W.program s q)) (sym slot) here in
              within_committed q (slot_qual W.sig (Some n)) (S.closed b p pt e is reached (n.0, q) (subst (λ k. IsSent (n.0, q) (kind_sends W.program b e k)) (sym kind) sent)) written

      in_field : (o : Option Field) → field_info W.program f.0 ≡ o → ref_of o ≡ true → (field_qual_of W.sig o).committed ≡ true
      in_field None io h = cc
      in_field (Some x) io h = by x.slot refl h
        where
          by : (s : Option SlotNo) → x.slot ≡ s → has_slot s ≡ true → (slot_qual W.sig s).committed ≡ true
          by None so h = cc
          by (Some n) so h = in_slot x n io so

    field_settles : (k : PointKind) → pt.kind ≡ k → FieldSettles W e k
    field_settles (FieldWrite r f v) kind = λ h written. in_field r v f kind written (field_info W.program f.0) refl h
    field_settles k kind = tt

  pub solved_accepted : Accepted W
  solved_accepted = record {
    shaped = S.shaped;
    respects = S.respects;
    none = S.none;
    starts = S.starts;
    fields = λ b p pt e is reached. field_settles b p pt e is reached pt.kind refl;
  }
