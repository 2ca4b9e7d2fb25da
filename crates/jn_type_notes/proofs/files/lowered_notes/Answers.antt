use Rattle.std.proofs.Common.{map, ap, ◌∙◌, subst}
use Rattle.std.proofs.lemmas.Result.{IfOk-weaker}
use Rattle.jn_base.specs.declared.infer.Infer.TheVariants.{Private}
use Rattle.jn_places.specs.PlacedView.{placed_file}
use Rattle.jn_classtable.specs.Rows.{t_rows}
use Rattle.jn_heads.specs.Extract.{heads}
use Rattle.jn_heads.specs.Inferred.{Tabled}
use Rattle.jn_program.specs.Lowered.{IsRefusedFor}
use Rattle.jn_program_law.specs.FileProgram.{j_rows, program_of_files}
use Rattle.jn_type_notes.specs.Wording.{program_notes}
use Rattle.jn_type_notes.proofs.Noting.{no_notes_by_bodies, notes_there}
use Rattle.jn_type_notes.proofs.files.lowered_notes.Goals as goal

pub lower-requires-clause-table : goal.lower-requires-clause-table
lower-requires-clause-table g c κs lives = ap (λ (t : Tabled). t.heads) c.requires.table

pub returns-in-Ok : goal.returns-in-Ok
returns-in-Ok g c =
    let trees = map placed_file c.args.trees.now in
    let names = c.args.names.now in
    let made = c.in-Ok.ensures.lowered Private (ap (λ (t : Tabled). t.slots) c.requires.table) in
    IfOk-weaker c.program_notes.result _ _ (λ notes h. notes_there (t_rows (heads trees)) (j_rows trees) (program_notes names (program_of_files trees)) notes c.requires.rows made.rows (h ∙ ap (program_notes names) (made.program ∙ c.more_members_are_inferred.ensures.private_ones trees))) c.program_notes.ensures

pub returns-in-Err-Refused : goal.returns-in-Err-Refused
returns-in-Err-Refused g c =
    let trees = map placed_file c.args.trees.now in
    let are = subst (λ fail. IsRefusedFor trees fail) c.in-Err-Refused.field-0-is c.in-Err-Refused.ensures.refused in
    IfOk-weaker c.no_notes.result _ _ (λ notes h. no_notes_by_bodies (t_rows (heads trees)) (j_rows trees) (program_notes c.args.names.now (program_of_files trees)) notes c.requires.rows are.1 h) c.no_notes.ensures
