use Rattle.std.proofs.Common.{rules, ◌∙◌}
use Rattle.jn_member_tables.proofs.Rounds.{no_trees, are_table}
use Rattle.jn_member_tables.proofs.tables.find_tables.Goals as goal

pub add_in_order-requires : goal.add_in_order-requires
add_in_order-requires c = no_trees c.args.program.now c.args.own.now c.args.count c.height_of-height.result c.in_ok-nodes.nodes.items c.in_ok-roots.roots.items c.in_ok-nodes.ensures (c.in_ok-roots.ensures.long ∙ c.len.ensures) c.in_ok-roots.ensures.none c.height_of-height.ensures.many c.requires.small

pub returns-clause-is : goal.returns-clause-is
returns-clause-is c = are_table c.args.program.now c.args.own.now c.args.count c.height_of-height.result c.add_others.new.nodes.items c.add_others.new.roots.items c.height_of-height.ensures.many c.in_ok-add_others.ensures.are (search rules)
