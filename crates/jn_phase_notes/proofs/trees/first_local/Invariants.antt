use Rattle.std.proofs.Common.{◌≡◌, drop}
use Rattle.std.specs.Prelude.{find}
use Rattle.jn_phase_notes.specs.declared.repeated.Second.{Second}
use Rattle.jn_notes.specs.Asked.{same_span}
use Rattle.jn_phase_notes.proofs.trees.first_local.Given as goal

abbrev pub invariant-loop-second : goal.invariant-loop-second
invariant-loop-second l = find (λ (x : Second). same_span x.span l.span) (drop l.second-index l.seconds) ≡ find (λ (x : Second). same_span x.span l.span) l.seconds
