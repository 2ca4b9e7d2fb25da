use Rattle.std.proofs.Common.{◌≡◌, ◌++◌, length, drop}
use Rattle.jn_env.specs.Chained.{unmarked}
use Rattle.jn_env.specs.Keys.{distinct}
use Rattle.jn_env.proofs.keys.distinct.Given as goal

abbrev pub invariant-loop-i : goal.invariant-loop-i
invariant-loop-i l = record {
  long : length l.seen ≡ length l.fn.all.items;
  taken : l.keys.items ++ distinct (unmarked (drop l.i l.fn.all.items) (drop l.i l.seen)) ≡ distinct l.fn.all.items;
}
