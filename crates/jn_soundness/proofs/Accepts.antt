-- An accepted program is checked.
use Rattle.std.proofs.Common.{◌≡◌, ℕ, ◌+◌, ◌⊎◌, inl, inr, Bool, true, false, List, [], ◌∷◌, ◌++◌, Some, sym, ap, ◌∙◌}
use Rattle.std.specs.Prelude.{slice_get}
use Rattle.jn_quals.specs.Order.{without_null, null_part, is_none}
use Rattle.jn_points.specs.declared.point.Point.{Point}
use Rattle.jn_points.specs.declared.point.PointKind.{PointKind}
use Rattle.jn_points.specs.declared.point.PointKind.TheVariants.{TestInst, TestNull, Branch, Goto, Return}
use Rattle.jn_points.specs.declared.program.Field.{Field}
use Rattle.jn_points.specs.Edges.{edges_of, one}
use Rattle.jn_points.specs.Lookup.{ref_of, ctor_of, static_of, is_ref_base, point_at, ref_field, method_at, method_of_body}
use Rattle.jn_points.specs.Shaped.{LeadsTo}
use Rattle.jn_sigs.specs.Signature.{slot_qual}
use Rattle.jn_env.specs.Environment.{Env}
use Rattle.jn_env.specs.Order.{qual_at}
use Rattle.jn_transfer.specs.Transfer.{transfer, side, learn, refine, IsAmong}
use Rattle.jn_soundness.specs.World.{World, env_at}
use Rattle.jn_soundness.specs.Checked.{PointOk, Checked}
use Rattle.jn_soundness.specs.Accepted.{Accepted}
use Rattle.jn_soundness.proofs.Basics.{within_committed, body_there}
use Rattle.jn_soundness.proofs.Rows.{none_broken}
use Rattle.jn_soundness.specs.Asked.{MainsOk}

-- targets of edges

next_leads : (p : ℕ) (e : Env) (x : ℕ × Env) → IsAmong x ((p, e) ∷ []) → LeadsTo (one (record { 0 = p })) x.0
next_leads p e x (inl h) = inl (sym (ap (λ y. y.0) h))
next_leads p e x (inr h) = absurd h

side_leads : (t : Bool) (to : ℕ) (e : Env) (rest : List (ℕ × Env)) (x : ℕ × Env) → IsAmong x (side t to e ++ rest) → (to ≡ x.0) ⊎ IsAmong x rest
side_leads true to e rest x h = inr h
side_leads false to e rest x (inl h) = inl (sym (ap (λ y. y.0) h))
side_leads false to e rest x (inr h) = inr h

last_leads : (t : Bool) (to : ℕ) (e : Env) (x : ℕ × Env) → IsAmong x (side t to e) → to ≡ x.0
last_leads true to e x h = absurd h
last_leads false to e x (inl h) = sym (ap (λ y. y.0) h)
last_leads false to e x (inr h) = absurd h

only : (to : ℕ) (e : Env) (x : ℕ × Env) → IsAmong x ((to, e) ∷ []) → to ≡ x.0
only to e x (inl h) = sym (ap (λ y. y.0) h)
only to e x (inr h) = absurd h

module _ (W : World) where
  leads : (b : ℕ) (k : PointKind) (p : ℕ) (e : Env) (x : ℕ × Env) → IsAmong x (transfer W.program W.sig b k p e) → LeadsTo (edges_of k p) x.0
  leads b (TestInst of c og at_yes at_no) p e x h =
      let v = without_null (qual_at e of.reg.0) in
      by (side_leads (is_none v) at_yes.0 (learn W.program b og (refine e of.reg.0 v)) ((at_no.0, e) ∷ []) x h)
    where
      by : (at_yes.0 ≡ x.0) ⊎ IsAmong x ((at_no.0, e) ∷ []) → (at_yes.0 ≡ x.0) ⊎ (at_no.0 ≡ x.0)
      by (inl y) = inl y
      by (inr z) = inr (only at_no.0 e x z)
  leads b (TestNull of og at_null at_value) p e x h =
      let n = null_part (qual_at e of.reg.0) in
      let v = without_null (qual_at e of.reg.0) in
      by (side_leads (is_none n) at_null.0 (refine e of.reg.0 n) (side (is_none v) at_value.0 (learn W.program b og (refine e of.reg.0 v))) x h)
    where
      by : (at_null.0 ≡ x.0) ⊎ IsAmong x (side (is_none (without_null (qual_at e of.reg.0))) at_value.0 (learn W.program b og (refine e of.reg.0 (without_null (qual_at e of.reg.0))))) → (at_null.0 ≡ x.0) ⊎ (at_value.0 ≡ x.0)
      by (inl y) = inl y
      by (inr z) = inr (last_leads (is_none (without_null (qual_at e of.reg.0))) at_value.0 (learn W.program b og (refine e of.reg.0 (without_null (qual_at e of.reg.0)))) x z)
  leads b (Branch of at_yes at_no) p e x (inl h) = inl (sym (ap (λ y. y.0) h))
  leads b (Branch of at_yes at_no) p e x (inr h) = inr (only at_no.0 e x h)
  leads b (Goto to) p e x h = inl (only to.0 e x h)
  leads b (Return v) p e x h = absurd h
  leads b k p e x h = next_leads (p + 1) _ x h

module _ (W : World) (A : Accepted W) where
  point_ok : (b p : ℕ) (pt : Point) (e : Env) → point_at W.program b p ≡ Some pt → env_at W b p ≡ Some e → PointOk W b p e pt.kind
  point_ok b p pt e is reached =
      let r = A.shaped.points b p pt is in
      let x = body_there W.program b p pt is in
      record {
        edges = λ y among.
            let edge = r.edges y.0 (leads W b pt.kind p e y among) in
            record { within = (A.respects b x.0 x.1).edges p pt e is reached y among; test = edge.test; early = edge.early };
        rules = none_broken W A.none b p pt e is reached r.passes (A.fields b p pt e is reached);
        this_kept = r.this_kept;
        names = r.names;
        end = r.end;
      }

  plain_base : (f : ℕ) (x : Field) → slice_get W.program.fields f ≡ Some x → ref_field W.program f ≡ false → is_ref_base x.base ≡ false
  plain_base f x is n = sym (A.shaped.fields f x is) ∙ (sym (ap ref_of is) ∙ n)

  pub accepted_checked : Checked W
  accepted_checked = record {
    entry = λ b x is. (A.respects b x is).entry;
    entry_test = A.shaped.entry_test;
    entry_early = A.shaped.entry_early;
    points = point_ok;
    bodies = λ m b is. let x = A.shaped.bodies m b is in ap (method_of_body W.program) x.1 ∙ ap (method_at W.program) x.2;
    there = λ m b is. let x = A.shaped.bodies m b is in (x.0, x.1);
    ctor_this = A.shaped.ctor_this;
    ctor_regs = A.shaped.ctor_regs;
    fields = plain_base;
  }

  pub accepted_mains : MainsOk W
  accepted_mains = record {
    static = λ m b main. ap static_of main.there ∙ (A.shaped.mains m main.method main.there main.is_main).1;
    method = λ m b main. ap ctor_of main.there ∙ (A.shaped.mains m main.method main.there main.is_main).0;
    slot = λ m b main. within_committed main.info.start (slot_qual W.sig (Some main.slot)) (A.starts main.slot.0 main.info main.start main.written) (ap (λ q. q.committed) main.committed);
  }
