use Rattle.std.proofs.Common.{◌≡◌, drop}
use Rattle.std.specs.Prelude.{find}
use Rattle.jn_declaration_rules.specs.Rows.{same_method}
use Rattle.jn_phase_notes.proofs.places.like_method.Given as goal

abbrev pub invariant-loop-other : goal.invariant-loop-other
invariant-loop-other l = find (same_method l.method) (drop l.other-index l.methods) ≡ find (same_method l.method) l.methods
