use Rattle.std.proofs.Common.{◌≡◌, ◌++◌, drop}
use Rattle.jn_unkept.specs.Alike.{paired}
use Rattle.jn_unkept.proofs.alike.put_pairs.Given as goal

abbrev pub invariant-loop-at : goal.invariant-loop-at
invariant-loop-at l = l.pairs.items ++ paired l.i (drop l.at l.lefts) l.j (drop l.at l.rights) ≡ l.fn.pairs.items ++ paired l.i l.lefts l.j l.rights
