use Rattle.std.proofs.Common.{◌≡◌, ◌++◌, drop}
use Rattle.jn_transfer.specs.Transfer.{ref_quals}
use Rattle.jn_transfer.proofs.creation.ref_quals.Given as goal

abbrev pub invariant-loop-i : goal.invariant-loop-i
invariant-loop-i l = l.quals.items ++ ref_quals l.env (drop l.i l.slots) (drop l.i l.args) ≡ ref_quals l.env l.slots l.args
