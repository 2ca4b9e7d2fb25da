use Rattle.std.proofs.Common.{◌≡◌, ◌+◌, ◌-◌, ◌*◌, ◌<◌, ◌≤◌, length}
use Rattle.jn_trees.specs.WellFormed.{nesting, nesting_all, loosest_power}
use Rattle.jn_trees.specs.View.{view, views}
use Rattle.jn_trees.specs.Pieces.{kinds}
use Rattle.jn_parse_expr_law.specs.Reader.{reader, link, primary, all_items}
use Rattle.jn_parse_expr.specs.Steps.{IsLinked}
use Rattle.jn_parse_expr.proofs.Going.{Going, GoingAll}
use Rattle.jn_parse_expr.proofs.Levels.{Climbing}
use Rattle.jn_parse_expr.proofs.+parser.Given as goal

abbrev pub decreases-whole::read_whole : goal.decreases-whole::read_whole
decreases-whole::read_whole l = 32 * l.depth + 21

abbrev pub decreases-whole::value_tail : goal.decreases-whole::value_tail
decreases-whole::value_tail l = 32 * l.depth + 20

abbrev pub decreases-whole::read_conditional : goal.decreases-whole::read_conditional
decreases-whole::read_conditional l = 32 * l.depth + 19

abbrev pub decreases-whole::choice_tail : goal.decreases-whole::choice_tail
decreases-whole::choice_tail l = 32 * l.depth + 18

abbrev pub decreases-operators::read_operand : goal.decreases-operators::read_operand
decreases-operators::read_operand l = 32 * l.depth + 11

abbrev pub decreases-operators::grow_tail : goal.decreases-operators::grow_tail
decreases-operators::grow_tail l = 32 * l.depth + 3

abbrev pub decreases-operators::operand_tail : goal.decreases-operators::operand_tail
decreases-operators::operand_tail l = 32 * l.depth + 2

abbrev pub decreases-unary::read_unary : goal.decreases-unary::read_unary
decreases-unary::read_unary l = 32 * l.depth + 10

abbrev pub decreases-unary::cast_tail : goal.decreases-unary::cast_tail
decreases-unary::cast_tail l = 32 * l.depth + 2

abbrev pub decreases-unary::read_prefix : goal.decreases-unary::read_prefix
decreases-unary::read_prefix l = 32 * l.depth + 2

abbrev pub decreases-unary::read_left_side : goal.decreases-unary::read_left_side
decreases-unary::read_left_side l = 32 * l.depth + 9

abbrev pub decreases-primary::read_primary : goal.decreases-primary::read_primary
decreases-primary::read_primary l = 32 * l.depth + 8

abbrev pub decreases-primary::link_tail : goal.decreases-primary::link_tail
decreases-primary::link_tail l = 32 * l.depth + 2

abbrev pub decreases-primary::member_tail : goal.decreases-primary::member_tail
decreases-primary::member_tail l = 32 * l.depth + 1

abbrev pub decreases-primary::index_tail : goal.decreases-primary::index_tail
decreases-primary::index_tail l = 32 * l.depth + 1

abbrev pub decreases-primary::read_head : goal.decreases-primary::read_head
decreases-primary::read_head l = 32 * l.depth + 5

abbrev pub decreases-primary::read_super : goal.decreases-primary::read_super
decreases-primary::read_super l = 32 * l.depth + 1

abbrev pub decreases-creation::read_creation : goal.decreases-creation::read_creation
decreases-creation::read_creation l = 32 * l.depth + 4

abbrev pub decreases-creation::read_array : goal.decreases-creation::read_array
decreases-creation::read_array l = 32 * l.depth + 2

abbrev pub decreases-arguments::read_arguments : goal.decreases-arguments::read_arguments
decreases-arguments::read_arguments l = 32 * l.depth + 24

abbrev pub decreases-arguments::read_arguments_in : goal.decreases-arguments::read_arguments_in
decreases-arguments::read_arguments_in l = 32 * l.depth + 23

abbrev pub decreases-arguments::read_elements_in : goal.decreases-arguments::read_elements_in
decreases-arguments::read_elements_in l = 32 * l.depth + 23

abbrev pub decreases-arguments::read_items : goal.decreases-arguments::read_items
decreases-arguments::read_items l = 32 * l.depth + 22

-- what the steps from here on give
abbrev pub invariant-operators::read_operand-operators : goal.invariant-operators::read_operand-operators
invariant-operators::read_operand-operators l = record {
  some_depth : 0 < l.depth;
  lower : l.level < l.power;
  small : l.power ≤ loosest_power;
  fits : l.nested ≤ l.depth;
  nests : l.nested ≡ nesting (view l.left.value);
  on : Climbing l.depth l.nested (view l.left.value, kinds l.rest) (kinds l.tokens) l.level;
}

abbrev pub decreases-operators::read_operand-operators : goal.decreases-operators::read_operand-operators
decreases-operators::read_operand-operators l = l.depth - l.nested

abbrev pub invariant-primary::read_primary-links : goal.invariant-primary::read_primary-links
invariant-primary::read_primary-links l = record {
  some_depth : 0 < l.depth;
  fits : l.nested ≤ l.depth;
  nests : l.nested ≡ nesting (view l.tree.value);
  linked : IsLinked (kinds l.tokens) (view l.tree.value) l.before (kinds l.link) (kinds l.rest);
  on : Going (link (reader (l.depth - 1)) l.depth) l.depth l.nested (view l.tree.value, kinds l.rest) (primary (reader (l.depth - 1)) l.depth (kinds l.tokens));
}

abbrev pub decreases-primary::read_primary-links : goal.decreases-primary::read_primary-links
decreases-primary::read_primary-links l = l.depth - l.nested

abbrev pub invariant-arguments::read_items-items : goal.invariant-arguments::read_items-items
invariant-arguments::read_items-items l = record {
  fits : l.nested ≤ l.depth;
  nests : l.nested ≡ nesting_all (views l.all.items);
  on : GoingAll (reader l.depth).whole (views l.all.items) (kinds l.left) (all_items (reader l.depth).whole (kinds l.tokens));
}

abbrev pub decreases-arguments::read_items-items : goal.decreases-arguments::read_items-items
decreases-arguments::read_items-items l = length l.left

abbrev pub decreases-creation::read_annotated : goal.decreases-creation::read_annotated
decreases-creation::read_annotated l = 32 * l.depth + 3
