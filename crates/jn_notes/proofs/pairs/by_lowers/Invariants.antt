use Rattle.std.proofs.Common.{◌≡◌, Some, None}
use Rattle.jn_note_words.specs.Owned.{first_below}
use Rattle.jn_notes.specs.Asked.{by_lower}
use Rattle.jn_notes.proofs.pairs.by_lowers.Given as goal

abbrev pub invariant-loop-i : goal.invariant-loop-i
invariant-loop-i l = first_below (by_lower l.program l.sig l.part (Some l.over) l.under) l.i ≡ None
