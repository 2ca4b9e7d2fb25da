use Rattle.jn_heads_law.specs.Plain.{plain_name}
use Rattle.jn_kept_points.proofs.Lists.{LeftSame}
use Rattle.jn_kept_points.proofs.alike.same_names.Given as goal

abbrev pub invariant-loop-at : goal.invariant-loop-at
invariant-loop-at l = LeftSame plain_name l.one l.other l.at
