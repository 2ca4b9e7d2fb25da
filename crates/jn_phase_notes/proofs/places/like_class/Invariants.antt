use Rattle.std.proofs.Common.{◌≡◌, drop}
use Rattle.std.specs.Prelude.{find}
use Rattle.jn_classtable.specs.Rows.{same_class_name}
use Rattle.jn_phase_notes.proofs.places.like_class.Given as goal

abbrev pub invariant-loop-other : goal.invariant-loop-other
invariant-loop-other l = find (same_class_name l.class) (drop l.other-index l.classes) ≡ find (same_class_name l.class) l.classes
