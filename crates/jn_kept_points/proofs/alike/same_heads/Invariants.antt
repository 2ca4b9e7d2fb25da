use Rattle.jn_heads_law.specs.Plain.{plain_head}
use Rattle.jn_kept_points.proofs.Lists.{LeftSame}
use Rattle.jn_kept_points.proofs.alike.same_heads.Given as goal

abbrev pub invariant-loop-at : goal.invariant-loop-at
invariant-loop-at l = LeftSame plain_head l.one l.other l.at
