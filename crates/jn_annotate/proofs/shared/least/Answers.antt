use Rattle.jn_annotate.proofs.Sharing.{least_next_at}
use Rattle.jn_annotate.proofs.shared.least.Goals as goal

pub loop-slot-preserved : goal.loop-slot-preserved
loop-slot-preserved c = least_next_at c.args.slots.now c.in-Some.rest.now c.loop-slot.found c.lesser-found.result c.loop-slot.slot-index _ c.loop-slot-test.true c.lesser-found.ensures c.loop-slot.invariant
