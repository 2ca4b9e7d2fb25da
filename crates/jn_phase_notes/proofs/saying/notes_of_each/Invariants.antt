use Rattle.std.proofs.Common.{◌≡◌, map, take}
use Rattle.jn_phase_notes.specs.Possible.{candidate_note}
use Rattle.jn_phase_notes.proofs.saying.notes_of_each.Given as goal

abbrev pub invariant-loop-x : goal.invariant-loop-x
invariant-loop-x l = l.notes.items ≡ map (candidate_note l.names l.arguments) (take l.x-index l.found)
