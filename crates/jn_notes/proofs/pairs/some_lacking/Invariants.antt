use Rattle.std.proofs.Common.{◌≡◌, drop}
use Rattle.jn_notes.specs.Asked.{some_lacking}
use Rattle.jn_notes.proofs.pairs.some_lacking.Given as goal

abbrev pub invariant-loop-i : goal.invariant-loop-i
invariant-loop-i l = some_lacking l.sig (drop l.i l.from) (drop l.i l.to) ≡ some_lacking l.sig l.from l.to
