use Rattle.std.proofs.Common.{◌≡◌, ◌++◌, drop, flat_map}
use Rattle.jn_phase_notes.specs.Possible.{read}
use Rattle.jn_phase_notes.proofs.candidates.put_fields.Given as goal

abbrev pub invariant-loop-field : goal.invariant-loop-field
invariant-loop-field l = l.found ++ flat_map (read l.program l.name.0) (drop l.field-index l.program.fields) ≡ l.fn.found ++ flat_map (read l.program l.name.0) l.program.fields
