use Rattle.std.proofs.Common.{◌≡◌, ◌++◌, drop}
use Rattle.std.specs.Prelude.{flat_map}
use Rattle.jn_notes.specs.Spoken.{left_of}
use Rattle.jn_notes.proofs.lefts.put_fields.Given as goal

abbrev pub invariant-loop-field : goal.invariant-loop-field
invariant-loop-field l = l.topics.items ++ flat_map (left_of l.program l.sig l.points l.own l.slots) (drop l.field-index l.own) ≡ l.fn.topics.items ++ flat_map (left_of l.program l.sig l.points l.own l.slots) l.own
