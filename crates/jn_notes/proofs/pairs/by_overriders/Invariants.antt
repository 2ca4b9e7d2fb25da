use Rattle.std.proofs.Common.{◌≡◌, Some, drop}
use Rattle.jn_notes.specs.Asked.{slot_item}
use Rattle.jn_note_words.specs.Owned.{first_of}
use Rattle.jn_notes.proofs.Nearby.{listed_item}
use Rattle.jn_notes.proofs.pairs.by_overriders.Given as goal

abbrev pub invariant-loop-j : goal.invariant-loop-j
invariant-loop-j l = first_of (listed_item l.program l.sig l.span l.part) (drop l.j l.overriders) ≡ slot_item l.program l.sig l.span (Some l.part)
