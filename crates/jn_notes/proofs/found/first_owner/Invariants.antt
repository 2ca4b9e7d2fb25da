use Rattle.std.proofs.Common.{◌≡◌, drop}
use Rattle.jn_note_words.specs.Owned.{first_of}
use Rattle.jn_notes.specs.Found.{owner_by}
use Rattle.jn_notes.proofs.found.first_owner.Given as goal

abbrev pub invariant-loop-spot : goal.invariant-loop-spot
invariant-loop-spot l = first_of (owner_by l.program l.sig l.sought l.tables) (drop l.spot-index l.spots) ≡ first_of (owner_by l.program l.sig l.sought l.tables) l.spots
