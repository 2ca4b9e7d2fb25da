use Rattle.jn_origins.specs.Targets.{AreSendersBelow}
use Rattle.jn_origins.proofs.senders.find_senders.Given as goal

abbrev pub invariant-loop-body : goal.invariant-loop-body
invariant-loop-body l = AreSendersBelow l.program l.body l.lists.items
