use Rattle.std.proofs.Common.{◌≡◌, drop}
use Rattle.std.specs.Prelude.{find}
use Rattle.jn_refused_notes.specs.declared.causes.Refusal.{Refusal}
use Rattle.jn_notes.specs.Asked.{same_span}
use Rattle.jn_phase_notes.proofs.refused.refusal_at.Given as goal

abbrev pub invariant-loop-refusal : goal.invariant-loop-refusal
invariant-loop-refusal l = find (λ (r : Refusal). same_span r.span l.span) (drop l.refusal-index l.refusals) ≡ find (λ (r : Refusal). same_span r.span l.span) l.refusals
