use Rattle.jn_front.specs.Files.{files_of_reads}
use Rattle.nullcheck_top.specs.Report.{placed}
use Rattle.nullcheck_top.proofs.Noting.{noted_behind_last, noted_there}
use Rattle.nullcheck_top.proofs.notes.notes_at.Goals as goal

pub returns-then-at-notes : goal.returns-then-at-notes
returns-then-at-notes c = noted_there (placed (files_of_reads c.args.files.now)) c.args.notes.now c.args.at c.index-notes-at.result c.placed.result c.if-at-notes.true c.index-notes-at.is c.placed.ensures

pub returns-else-at-notes : goal.returns-else-at-notes
returns-else-at-notes c = noted_behind_last (placed (files_of_reads c.args.files.now)) c.args.notes.now c.args.at c.nothing.result c.if-at-notes.false c.nothing.ensures
