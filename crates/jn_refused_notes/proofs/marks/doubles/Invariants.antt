use Rattle.std.proofs.Common.{◌≡◌, length}
use Rattle.jn_lower_rows.specs.Views.{kind_of}
use Rattle.jn_refused_notes.specs.Marked.{doubles}
use Rattle.jn_refused_notes.proofs.marks.doubles.Given as goal

abbrev pub invariant-loop-left : goal.invariant-loop-left
invariant-loop-left l = (l.found ≡ l.fn.found) × (doubles (kind_of l.kind) l.left ≡ doubles (kind_of l.kind) l.fn.annotations)

abbrev pub decreases-loop-left : goal.decreases-loop-left
decreases-loop-left l = length l.left
