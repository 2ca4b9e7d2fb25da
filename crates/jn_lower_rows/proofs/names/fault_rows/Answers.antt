use Rattle.jn_lower_rows.proofs.Parts.{part_step}
use Rattle.jn_lower_rows.proofs.names.fault_rows.Goals as goal

pub loop-at-preserved : goal.loop-at-preserved
loop-at-preserved c = part_step c.loop-at.rows c.push.new.self _ c.args.c.now.faults.now c.loop-at.at c.args.faults.to _ c.loop-at-test.true c.if-at-all.true c.loop-at.invariant c.in_ok-push.ensures.ok
