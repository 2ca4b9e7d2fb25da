use Rattle.std.proofs.Common.{◌≡◌, ℕ, drop}
use Rattle.jn_points.specs.Members.{first_or}
use Rattle.jn_member_tables.specs.Nodes.{find, Grown}
use Rattle.jn_member_tables.specs.Along.{others_found}
use Rattle.jn_member_tables.specs.Tables.{look}
use Rattle.jn_member_tables.proofs.tables.merge_others.Given as goal

abbrev pub invariant-loop-class : goal.invariant-loop-class
invariant-loop-class l = record {
  grown : Grown l.fn.nodes.items l.nodes.items l.root;
  found : (k : ℕ) → first_or (find l.nodes.items l.height l.root k) (others_found (look l.fn.nodes.items l.height l.roots k) l.parent (drop l.class-index l.supers)) ≡ first_or (find l.fn.nodes.items l.height l.number k) (others_found (look l.fn.nodes.items l.height l.roots k) l.parent l.supers);
}
