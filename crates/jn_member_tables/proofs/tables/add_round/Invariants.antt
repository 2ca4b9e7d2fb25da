use Rattle.std.proofs.Common.{◌<◌, ℕ}
use Rattle.jn_member_tables.specs.Along as along
use Rattle.jn_member_tables.specs.Tables as spec
use Rattle.jn_member_tables.proofs.tables.add_round.Given as goal

abbrev pub invariant-loop-place : goal.invariant-loop-place
invariant-loop-place l = record {
  are : spec.AreTrees l.program l.own l.height l.nodes.items l.roots.items;
  kept : along.Keeps l.fn.roots.items l.roots.items;
  ready : (c : ℕ) → c < l.place → along.GetsRoot l.program l.fn.roots.items l.roots.items c;
}
