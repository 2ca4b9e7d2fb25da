use Rattle.jn_flow.specs.Inside.{AllInside}
use Rattle.jn_flow.proofs.inside.all_inside.Given as goal

abbrev pub invariant-loop-at : goal.invariant-loop-at
invariant-loop-at l = AllInside l.body.points l.at
