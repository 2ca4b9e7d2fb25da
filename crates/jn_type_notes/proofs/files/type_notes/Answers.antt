use Rattle.std.proofs.Common.{map, subst}
use Rattle.std.proofs.lemmas.Result.{IfOk-weaker}
use Rattle.jn_places.specs.PlacedView.{placed_file}
use Rattle.jn_classtable.specs.Built.{IsRefusedFor}
use Rattle.jn_classtable.specs.Rows.{t_rows}
use Rattle.jn_heads.specs.Extract.{heads}
use Rattle.jn_program_law.specs.FileProgram.{j_rows, program_of_files}
use Rattle.jn_type_notes.specs.Wording.{program_notes}
use Rattle.jn_type_notes.proofs.Noting.{no_notes_by_types}
use Rattle.jn_type_notes.proofs.files.type_notes.Goals as goal

pub returns-in-Err-Refused : goal.returns-in-Err-Refused
returns-in-Err-Refused g c =
    let trees = map placed_file c.args.trees.now in
    let are = subst (λ fail. IsRefusedFor (heads trees) fail) c.in-Err-Refused.field-0-is c.in-Err-Refused.ensures.refused in
    IfOk-weaker c.no_notes.result _ _ (λ notes h. no_notes_by_types (t_rows (heads trees)) (j_rows trees) (program_notes c.args.names.now (program_of_files trees)) notes are.1 h) c.no_notes.ensures
