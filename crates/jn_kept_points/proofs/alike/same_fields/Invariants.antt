use Rattle.jn_heads_law.specs.Plain.{plain_field}
use Rattle.jn_kept_points.proofs.Lists.{LeftSame}
use Rattle.jn_kept_points.proofs.alike.same_fields.Given as goal

abbrev pub invariant-loop-at : goal.invariant-loop-at
invariant-loop-at l = LeftSame plain_field l.one l.other l.at
