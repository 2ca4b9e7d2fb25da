use Rattle.std.proofs.Common.{◌≡◌, ◌<◌, ℕ, true, length}
use Rattle.jn_points.specs.Regular.{RegularClasses}
use Rattle.jn_member_tables.specs.Along as along
use Rattle.jn_member_tables.specs.Tables as spec
use Rattle.jn_member_tables.proofs.tables.add_others.Given as goal

abbrev pub invariant-loop-round : goal.invariant-loop-round
invariant-loop-round l = record {
  are : spec.AreTrees l.program l.own l.height l.nodes.items l.roots.items;
  low : (C : RegularClasses l.program) (c : ℕ) → c < length l.program.classes → C.rank c < l._round → along.has_root l.roots.items c ≡ true;
}
