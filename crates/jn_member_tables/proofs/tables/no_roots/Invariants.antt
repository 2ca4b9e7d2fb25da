use Rattle.std.proofs.Common.{◌≡◌, ℕ, length, None}
use Rattle.jn_member_tables.specs.Along as along
use Rattle.jn_member_tables.proofs.tables.no_roots.Given as goal

abbrev pub invariant-loop-class : goal.invariant-loop-class
invariant-loop-class l = record {
  long : length l.roots.items ≡ l._class;
  none : (c : ℕ) → along.root_at l.roots.items c ≡ None;
}
