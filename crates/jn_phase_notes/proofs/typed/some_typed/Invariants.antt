use Rattle.std.proofs.Common.{◌≡◌, drop}
use Rattle.jn_points.specs.Members.{some_of}
use Rattle.jn_type_notes.specs.Mismatched.{is_type_row}
use Rattle.jn_phase_notes.proofs.typed.some_typed.Given as goal

abbrev pub invariant-loop-row : goal.invariant-loop-row
invariant-loop-row l = some_of is_type_row (drop l.row-index l.rows) ≡ some_of is_type_row l.rows
