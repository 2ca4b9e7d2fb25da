use Rattle.std.proofs.Common.{◌-◌, Some, length, take}
use Rattle.jn_chain.specs.Keys.{IsEnd, kept_of, rest_of}
use Rattle.jn_chain.specs.Search.{IsPath}
use Rattle.jn_notes.specs.declared.said.Said.{Said}
use Rattle.jn_notes.specs.Said.{AreSaid}
use Rattle.jn_notes.specs.Walked.{ground_in}
use Rattle.jn_notes.proofs.said.say_back.Given as goal

abbrev pub invariant-loop-done : goal.invariant-loop-done
invariant-loop-done l = AreSaid (ground_in l.of) (kept_of Said l.said) × IsEnd Said (kept_of Said l.said) l.next × IsPath (ground_in l.of) (rest_of l.chains) (Some l.fn.item) (take (length l.steps - l.done) l.steps) l.next
