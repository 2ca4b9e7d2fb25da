use Rattle.std.proofs.Common.{◌≡◌, take}
use Rattle.jn_env.proofs.Along.{over}
use Rattle.jn_env.proofs.env.Env.give.Given as goal

abbrev pub invariant-loop-i : goal.invariant-loop-i
invariant-loop-i l = record {
  quals : l.self.quals ≡ over (take l.i l.quals) l.fn.self.quals;
  facts : l.self.facts ≡ l.fn.self.facts;
  assigned : l.self.assigned ≡ l.fn.self.assigned;
}
