use Rattle.std.proofs.Common.{refl}
use Rattle.jn_command.proofs.Showing.{note_nowhere, note_there}
use Rattle.jn_command.proofs.noted.note_of.Goals as goal

pub returns-then-file-reads : goal.returns-then-file-reads
returns-then-file-reads c = note_there c.args.reads.now c.args.span.now.file.0 c.index-reads-file.result c.args.joined c.args.ends c.args.words.now c.args.span.now c.note_in.result refl c.if-file-reads.true c.index-reads-file.is c.note_in.ensures

pub returns-else-file-reads : goal.returns-else-file-reads
returns-else-file-reads c = note_nowhere c.args.reads.now c.args.joined c.args.ends c.args.words.now c.args.span.now c.note_nowhere.result c.if-file-reads.false c.note_nowhere.ensures
