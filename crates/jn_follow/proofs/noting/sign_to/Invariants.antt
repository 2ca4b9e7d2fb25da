use Rattle.std.proofs.Common.{◌≡◌, drop}
use Rattle.jn_follow.specs.StopNotes.{sign_to}
use Rattle.jn_follow.proofs.noting.sign_to.Given as goal

abbrev pub invariant-loop-next : goal.invariant-loop-next
invariant-loop-next l = sign_to l.last (drop l.next-index l.rest) ≡ sign_to l.fn.token l.rest
