use Rattle.std.proofs.Common.{◌≡◌, ◌<◌, ℕ, true}
use Rattle.jn_member_tables.specs.Numbers.{contains}
use Rattle.jn_index.proofs.pairs.all_classes.Given as goal

abbrev pub invariant-loop-class : goal.invariant-loop-class
invariant-loop-class l = (c : ℕ) → c < l.class → contains l.classes.items c ≡ true
