use Rattle.jn_member_tables.specs.Tables as spec
use Rattle.jn_member_tables.proofs.tables.add_in_order.Given as goal

abbrev pub invariant-loop-class : goal.invariant-loop-class
invariant-loop-class l = spec.AreTrees l.program l.own l.height l.nodes.items l.roots.items
