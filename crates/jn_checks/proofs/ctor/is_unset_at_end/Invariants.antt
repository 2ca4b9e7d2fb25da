use Rattle.std.proofs.Common.{◌≡◌, ◌||◌, drop}
use Rattle.jn_transfer.specs.Rules.{unset_from}
use Rattle.jn_checks.proofs.ctor.is_unset_at_end.Given as goal

abbrev pub invariant-loop-at : goal.invariant-loop-at
invariant-loop-at l =
    let P = l.analysis.program in
    let s = l.analysis.sig in
    let b = l.analysis.body in
    (l.unset || unset_from P s b (drop l.at l.points) l.at l.slots) ≡ unset_from P s b l.points 0 l.slots
