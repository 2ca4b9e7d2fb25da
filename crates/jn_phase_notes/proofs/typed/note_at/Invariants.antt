use Rattle.std.proofs.Common.{◌≡◌, drop}
use Rattle.jn_phase_notes.specs.Wanting.{note_at}
use Rattle.jn_phase_notes.proofs.typed.note_at.Given as goal

abbrev pub invariant-loop-note : goal.invariant-loop-note
invariant-loop-note l = note_at (drop l.note-index l.notes) l.span ≡ note_at l.notes l.span
