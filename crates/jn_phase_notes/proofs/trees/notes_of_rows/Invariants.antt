use Rattle.std.proofs.Common.{◌≡◌, map, take}
use Rattle.jn_base.specs.declared.place.Row.{Row}
use Rattle.jn_phase_notes.specs.Trees.{notes_by}
use Rattle.jn_phase_notes.proofs.trees.notes_of_rows.Given as goal

abbrev pub invariant-loop-row : goal.invariant-loop-row
invariant-loop-row l = l.list.items ≡ map (λ (row : Row). notes_by l.names l.heads l.program l.gathered row.span row.code) (take l.row-index l.rows)
