use Rattle.std.proofs.Common.{◌≡◌, drop}
use Rattle.jn_note_words.specs.Owned.{first_of}
use Rattle.jn_notes.specs.Spoken.{overridden_of}
use Rattle.jn_notes.proofs.Nearby.{listed_owner}
use Rattle.jn_notes.proofs.changes.overridden_of.Given as goal

abbrev pub invariant-loop-j : goal.invariant-loop-j
invariant-loop-j l = first_of (listed_owner l.program l.sig l.span l.part) (drop l.j l.overriders) ≡ overridden_of l.program l.sig l.span l.part
