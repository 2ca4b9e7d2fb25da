use Rattle.jn_reuse.proofs.Told.{holds, told_same}
use Rattle.jn_reuse.proofs.reuse.keeps_body.Goals as goal

pub returns-then-known : goal.returns-then-known
returns-then-known c = holds (told_same c.args.old.now.names.now c.args.new.now.names.now c.args.old.now.program.now c.args.new.now.program.now c.args.body.0 c.requires.inside (c.requires.known c.if-known.true))
