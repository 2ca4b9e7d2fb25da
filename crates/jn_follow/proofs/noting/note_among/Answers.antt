use Rattle.jn_follow.proofs.Noted.{none_among}
use Rattle.jn_follow.proofs.noting.note_among.Goals as goal

pub returns-in-None : goal.returns-in-None
returns-in-None c = none_among c.args.file c.args.text.now c.args.tokens.now c.args.row.now (rw c.in-None.is at c.in_ok-found.ensures)
