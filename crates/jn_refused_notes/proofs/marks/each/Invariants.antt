use Rattle.std.proofs.Common.{◌≡◌, ◌++◌, flat_map, drop}
use Rattle.jn_lower_rows.specs.Views.{allowed_of}
use Rattle.jn_refused_notes.specs.Marked.{refused_annotation}
use Rattle.jn_refused_notes.proofs.marks.each.Given as goal

abbrev pub invariant-loop-annotation : goal.invariant-loop-annotation
invariant-loop-annotation l = l.found ++ flat_map (refused_annotation (allowed_of l.allowed) l.reference) (drop l.annotation-index l.annotations) ≡ l.fn.found ++ flat_map (refused_annotation (allowed_of l.allowed) l.reference) l.annotations
