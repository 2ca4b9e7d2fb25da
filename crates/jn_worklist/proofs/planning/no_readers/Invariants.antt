use Rattle.std.proofs.Common.{◌≡◌, [], replicate}
use Rattle.jn_worklist.proofs.planning.no_readers.Given as goal

abbrev pub invariant-loop : goal.invariant-loop
invariant-loop l = l.readers.items ≡ replicate l.counter []
