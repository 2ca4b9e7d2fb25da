use Rattle.jn_accept.proofs.accepted.Accepted.of.Goals as goal

pub invariant_of-result : goal.invariant_of-result
invariant_of-result c = record { regular = c.program-program.ensures.regular; typed = c.program-program.ensures.typed; closed = c.requires.closed; starts = c.requires.starts; unbroken = c.requires.broken }
