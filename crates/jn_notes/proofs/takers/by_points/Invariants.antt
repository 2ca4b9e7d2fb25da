use Rattle.std.proofs.Common.{◌≡◌, None}
use Rattle.jn_note_words.specs.Owned.{first_below}
use Rattle.jn_notes.specs.Spoken.{taker_at}
use Rattle.jn_notes.proofs.takers.by_points.Given as goal

abbrev pub invariant-loop-at : goal.invariant-loop-at
invariant-loop-at l = first_below (taker_at l.program l.sig l.sought l.body.0 l.slots) l.at ≡ None
