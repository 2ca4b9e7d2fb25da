use Rattle.std.proofs.Common.{take}
use Rattle.jn_chain.specs.Keys.{rest_of}
use Rattle.jn_chain.specs.Search.{AreMet, AreSeen, IsSource}
use Rattle.jn_chain.proofs.levels.meet_sources.Given as goal

abbrev pub invariant-loop-cause : goal.invariant-loop-cause
invariant-loop-cause l = AreMet (rest_of l.chains) l.levels l.depth (IsSource (take l.cause-index l.causes)) l.fn.next.items l.next.items l.fn.best l.least × AreSeen l.seen l.levels l.next.items
