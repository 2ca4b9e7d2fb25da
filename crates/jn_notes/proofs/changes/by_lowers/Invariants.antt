use Rattle.std.proofs.Common.{◌≡◌, Some, None}
use Rattle.jn_note_words.specs.Owned.{first_below}
use Rattle.jn_notes.specs.Spoken.{changed_at}
use Rattle.jn_notes.proofs.changes.by_lowers.Given as goal

abbrev pub invariant-loop-i : goal.invariant-loop-i
invariant-loop-i l = first_below (changed_at l.program l.sig l.part (Some l.over) l.under) l.i ≡ None
