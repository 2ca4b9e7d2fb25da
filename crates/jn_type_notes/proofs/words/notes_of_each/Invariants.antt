use Rattle.std.proofs.Common.{◌≡◌, map, take}
use Rattle.jn_type_notes.specs.Wording.{mismatch_note}
use Rattle.jn_type_notes.proofs.words.notes_of_each.Given as goal

abbrev pub invariant-loop-mismatch : goal.invariant-loop-mismatch
invariant-loop-mismatch l = l.notes.items ≡ map (mismatch_note l.names l.program) (take l.mismatch-index l.mismatches)
