use Rattle.std.proofs.Common.{◌≡◌, ◌<◌, ℕ, true}
use Rattle.jn_member_tables.specs.Along as along
use Rattle.jn_member_tables.proofs.tables.all_there.Given as goal

abbrev pub invariant-loop-root : goal.invariant-loop-root
invariant-loop-root l = (c : ℕ) → c < l.root-index → along.has_root l.roots c ≡ true
