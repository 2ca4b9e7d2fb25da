use Rattle.std.proofs.Common.{◌↔◌, drop, map}
use Rattle.jn_trees.specs.WellFormed.{GoodTypes}
use Rattle.jn_trees.specs.View.{type_view}
use Rattle.jn_trees_spelling.proofs.good_members.good_types.Given as goal

abbrev pub invariant-loop-declaration : goal.invariant-loop-declaration
invariant-loop-declaration l = GoodTypes (map type_view l.types) ↔ GoodTypes (map type_view (drop l.declaration-index l.types))
