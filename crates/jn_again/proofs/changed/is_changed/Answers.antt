use Rattle.jn_again.proofs.Turns.{known_body}
use Rattle.jn_again.proofs.changed.is_changed.Goals as goal

pub returns-then-known : goal.returns-then-known
returns-then-known c = known_body c.args.old.now c.args.new.now c.args.body (c.requires c.if-known.true)
