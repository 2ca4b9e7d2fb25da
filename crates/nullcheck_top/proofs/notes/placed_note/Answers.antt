use Rattle.std.proofs.Common.{◌≡◌, refl, subst}
use Rattle.std.specs.Prelude.{IfOk}
use Rattle.jn_front.specs.Files.{files_of_reads}
use Rattle.jn_command.specs.Shown.{note_of}
use Rattle.jn_command.proofs.Showing.{note_there}
use Rattle.nullcheck_top.proofs.Noting.{note_in_none}
use Rattle.nullcheck_top.proofs.notes.placed_note.Goals as goal

pub returns-then-file-files : goal.returns-then-file-files
returns-then-file-files c =
    let files = c.args.files.now in
    let span = c.args.note.now.span in
    let joined = c.args.note.now.joined in
    let ends = c.args.note.now.ends in
    subst (λ words. IfOk c.note.result (λ note. note ≡ note_of (files_of_reads files) joined ends words span)) c.as_slice.ensures
    (note_there files span.file.0 c.index-files-file.result joined ends c.as_slice.result.now span c.note.result refl c.if-file-files.true c.index-files-file.is c.note.ensures)

pub returns-else-file-files : goal.returns-else-file-files
returns-else-file-files c =
    let files = c.args.files.now in
    let span = c.args.note.now.span in
    let joined = c.args.note.now.joined in
    let ends = c.args.note.now.ends in
    subst (λ words. IfOk c.note_of.result (λ note. note ≡ note_of (files_of_reads files) joined ends words span)) c.as_slice-else-file-files.ensures
    (note_in_none files joined ends c.as_slice-else-file-files.result.now span c.note_of.result c.if-file-files.false c.note_of.ensures)
