use Rattle.std.proofs.Common.{rules, refl}
use Rattle.jn_member_tables.proofs.Joins.{over_more}
use Rattle.jn_member_tables.proofs.tables.put_all.Goals as goal

pub loop-step-preserved : goal.loop-step-preserved
loop-step-preserved c = over_more c.args.nodes.now.items c.loop-step.nodes.items c.put.new.nodes.items c.args.height c.args.number c.args.entries.now c.loop-step.step c.loop-step.root c.in_ok-root.root _ _ (search rules) c.requires.small refl c.loop-step.invariant c.in_ok-root.ensures
