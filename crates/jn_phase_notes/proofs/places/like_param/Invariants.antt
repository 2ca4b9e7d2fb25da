use Rattle.std.proofs.Common.{◌≡◌, drop}
use Rattle.std.specs.Prelude.{find}
use Rattle.jn_classtable.specs.Rows.{same_param_name}
use Rattle.jn_phase_notes.proofs.places.like_param.Given as goal

abbrev pub invariant-loop-other : goal.invariant-loop-other
invariant-loop-other l = find (same_param_name l.param) (drop l.other-index l.params) ≡ find (same_param_name l.param) l.params
