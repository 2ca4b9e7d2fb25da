use Rattle.std.proofs.Common.{refl, ◌∙◌}
use Rattle.jn_again.proofs.Going.{told_more, told_none}
use Rattle.jn_again.proofs.dirty.mark_all.Goals as goal

pub loop-body-init : goal.loop-body-init
loop-body-init g c = (refl, told_none c.args.changed.now (g.R.Reach.describe c.args.reach.now) c.args.bits.now c.args.dirty.now)

pub loop-body-preserved : goal.loop-body-preserved
loop-body-preserved g c =
    let f = c.in_ok-mark_unless.ensures in (
      f.count ∙ c.loop-body.invariant.0,
      told_more c.args.changed.now (g.R.Reach.describe c.args.reach.now) c.args.bits.now c.loop-body.dirty c.mark_unless.new.dirty c.loop-body.body f.kept f.told c.loop-body.invariant.1,
    )
