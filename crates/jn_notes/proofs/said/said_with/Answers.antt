use Rattle.jn_notes.proofs.Saying.{said_whole}
use Rattle.jn_notes.proofs.said.said_with.Goals as goal

pub returns : goal.returns
returns c = said_whole c.args.program.now c.args.step c.args.behind.now c.in_ok-told.told c.read_with.result c.in_ok-told.ensures c.read_with.ensures
