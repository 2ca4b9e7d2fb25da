use Rattle.std.proofs.Common.{◌≡◌, drop}
use Rattle.std.specs.Prelude.{find}
use Rattle.jn_lower_rows.specs.Views.{kind_of}
use Rattle.jn_refused_notes.specs.Marked.{is_named}
use Rattle.jn_refused_notes.proofs.marks.first_of_kind.Given as goal

abbrev pub invariant-loop-annotation : goal.invariant-loop-annotation
invariant-loop-annotation l = find (is_named (kind_of l.kind)) (drop l.annotation-index l.annotations) ≡ find (is_named (kind_of l.kind)) l.annotations
