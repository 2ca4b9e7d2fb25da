use Rattle.std.proofs.Common.{◌≡◌, drop}
use Rattle.std.specs.Prelude.{find}
use Rattle.jn_phase_notes.specs.declared.mentioning.Mention.{Mention}
use Rattle.jn_notes.specs.Asked.{same_span}
use Rattle.jn_phase_notes.proofs.candidates.mention_at.Given as goal

abbrev pub invariant-loop-mention : goal.invariant-loop-mention
invariant-loop-mention l = find (λ (m : Mention). same_span m.span l.span) (drop l.mention-index l.mentions) ≡ find (λ (m : Mention). same_span m.span l.span) l.mentions
