use Rattle.std.proofs.Common.{◌≡◌, List, map, subst, ◌∙◌}
use Rattle.std.specs.Prelude.{IfOk}
use Rattle.jn_base.specs.declared.place.Row.{Row}
use Rattle.jn_points.specs.declared.program.Program.{Program}
use Rattle.jn_heads.specs.declared.head.ClassHead.{ClassHead}
use Rattle.jn_classtable.specs.Table.{table}
use Rattle.jn_phase_notes.specs.Trees.{notes_by}
use Rattle.jn_phase_notes.proofs.trees.notes_of_declared.Goals as goal

pub returns : goal.returns
returns c =
    let names = c.args.names.now in
    let rows = c.args.rows.now in
    let g = c.args.gathered.now in
    let made = c.notes_of_rows.result in
    subst (λ (hs : List ClassHead). IfOk made (λ notes. notes.items ≡ map (λ (row : Row). notes_by names hs (table c.args.declared.now) g row.span row.code) rows)) c.heads-heads.ensures
    (subst (λ (P : Program). IfOk made (λ notes. notes.items ≡ map (λ (row : Row). notes_by names c.heads-heads.result.now P g row.span row.code) rows)) (c.of-program.ensures ∙ c.in_ok-program.ensures) c.notes_of_rows.ensures)
