use Rattle.jn_kept_points.proofs.Lists.{RestSame}
use Rattle.jn_recheck.proofs.files.same_files.Given as goal

abbrev pub invariant-loop-at : goal.invariant-loop-at
invariant-loop-at l = RestSame l.one l.other l.at
