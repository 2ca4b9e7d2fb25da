use Rattle.std.proofs.Common.{◌≡◌, ◌++◌, drop}
use Rattle.jn_reporters.specs.Words.{joined_notes}
use Rattle.jn_reporters.proofs.telling.put_joined.Given as goal

abbrev pub invariant-loop-note : goal.invariant-loop-note
invariant-loop-note l = l.out.items ++ joined_notes (drop l.note-index l.notes) ≡ l.fn.out.items ++ joined_notes l.notes
