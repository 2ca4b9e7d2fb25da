use Rattle.std.proofs.Common.{◌≡◌, drop}
use Rattle.std.specs.Prelude.{find}
use Rattle.jn_declaration_rules.specs.Rows.{same_field}
use Rattle.jn_phase_notes.proofs.places.like_field.Given as goal

abbrev pub invariant-loop-other : goal.invariant-loop-other
invariant-loop-other l = find (same_field l.field) (drop l.other-index l.fields) ≡ find (same_field l.field) l.fields
