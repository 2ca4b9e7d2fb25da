use Rattle.std.proofs.Common.{◌≡◌, ◌-◌, length}
use Rattle.jn_unkept.specs.Alike.{alike, all_alike}
use Rattle.jn_unkept.proofs.alike.alike.Given as goal

abbrev pub invariant-loop-round : goal.invariant-loop-round
invariant-loop-round l = all_alike l.body (length l.body.points - l._round) l.pairs.items ≡ alike l.body l.fn.left l.fn.right
