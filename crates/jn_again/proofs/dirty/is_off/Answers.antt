use Rattle.jn_again.proofs.Nothing.{none_apart}
use Rattle.jn_again.proofs.dirty.is_off.Goals as goal

pub returns-then-none : goal.returns-then-none
returns-then-none g c = λ e. none_apart (g.R.Reach.describe c.args.reach.now) c.args.bits.now c.requires.bits (c.requires.none c.if-none.true) c.args.body.0
