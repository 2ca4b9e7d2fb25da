use Rattle.std.proofs.Common.{◌≤◌, ◌+◌, ◌-◌, length}
use Rattle.std.specs.Prelude.{All}
use Rattle.jn_diag.specs.Sweep.{IsPosition}
use Rattle.nullcheck_top.proofs.marks.marks_of.Given as goal

abbrev pub invariant-loop-at : goal.invariant-loop-at
invariant-loop-at l = record {
  small : l.at ≤ length l.text + 1024;
  position : IsPosition l.text l.position;
  marks : All (IsPosition l.text) l.marks.items;
}

abbrev pub decreases-loop-at : goal.decreases-loop-at
decreases-loop-at l = (length l.text + 1024) - l.at
