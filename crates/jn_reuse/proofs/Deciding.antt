-- Whether a body is reusable, one condition after the other.
use Rattle.std.proofs.Common.{◌≡◌, ℕ, Bool, true, false, sym, ◌∙◌}
use Rattle.std.specs.Prelude.{◌↔◌}
use Rattle.jn_points.specs.Lookup.{body_at, method_in}
use Rattle.jn_recheck_law.specs.Alike.{SameDeclarations}
use Rattle.jn_recheck_law.specs.RuleReads.{rule_reads}
use Rattle.jn_recheck_law.specs.Slots.{Agree}
use Rattle.jn_recheck_law.specs.Reusable.{IsReusable, SameBodies, Solved, span_of}

never : false ≡ true → ⊥
never e = cc

module _ (old new : Solved) (b : ℕ) where
  pub undeclared : (same : Bool) → (same ≡ true) ↔ SameDeclarations old.names new.names old.program new.program → same ≡ false → (false ≡ true) ↔ IsReusable old new b
  undeclared same h e = ((λ x. absurd (never x)), (λ r. absurd (never (sym e ∙ h.1 r.declarations))))

  pub other_body : (same : Bool) → (same ≡ true) ↔ SameBodies old.names new.names (body_at old.program b) (body_at new.program b) → same ≡ false → (false ≡ true) ↔ IsReusable old new b
  other_body same h e = ((λ x. absurd (never x)), (λ r. absurd (never (sym e ∙ h.1 r.body))))

  pub other_span : (same : Bool) → (same ≡ true) ↔ (span_of (method_in old.program b) ≡ span_of (method_in new.program b)) → same ≡ false → (false ≡ true) ↔ IsReusable old new b
  other_span same h e = ((λ x. absurd (never x)), (λ r. absurd (never (sym e ∙ h.1 r.span))))

  pub by_slots : (one two three four : Bool)
      → (one ≡ true) ↔ SameDeclarations old.names new.names old.program new.program → one ≡ true
      → (two ≡ true) ↔ SameBodies old.names new.names (body_at old.program b) (body_at new.program b) → two ≡ true
      → (three ≡ true) ↔ (span_of (method_in old.program b) ≡ span_of (method_in new.program b)) → three ≡ true
      → (four ≡ true) ↔ Agree old.signature new.signature (rule_reads new.program b) → (four ≡ true) ↔ IsReusable old new b
  by_slots one two three four h1 e1 h2 e2 h3 e3 h4 = (
    (λ e. record { declarations = h1.0 e1; body = h2.0 e2; span = h3.0 e3; slots = h4.0 e }),
    (λ r. h4.1 r.slots),
  )
