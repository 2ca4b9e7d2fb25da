use Rattle.std.proofs.Common.{◌≡◌, [], None}
use Rattle.std.specs.Prelude.{slice_index_or}
use Rattle.jn_note_words.specs.Owned.{first_below}
use Rattle.jn_notes.specs.Spoken.{taker_in}
use Rattle.jn_notes.proofs.takers.taker.Given as goal

abbrev pub invariant-loop-body : goal.invariant-loop-body
invariant-loop-body l = first_below (λ b. taker_in l.program l.sig l.sought b (slice_index_or l.tables b [])) l.body ≡ None
