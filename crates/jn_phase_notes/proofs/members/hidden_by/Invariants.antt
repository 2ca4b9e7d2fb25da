use Rattle.std.proofs.Common.{◌≡◌, drop}
use Rattle.std.specs.Prelude.{find}
use Rattle.jn_phase_notes.specs.Others.{hides}
use Rattle.jn_phase_notes.proofs.members.hidden_by.Given as goal

abbrev pub invariant-loop-other : goal.invariant-loop-other
invariant-loop-other l = find (hides l.program l.field) (drop l.other-index l.program.fields) ≡ find (hides l.program l.field) l.program.fields
