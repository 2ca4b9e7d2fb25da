use Rattle.std.proofs.Common.{rules, arith, refl, ap, ◌∙◌, ◌-◌}
use Rattle.jn_member_tables.specs.Nodes.{node_at, is_odd}
use Rattle.jn_member_tables.proofs.Puts.{put_leaf, put_side}
use Rattle.jn_member_tables.proofs.nodes.+put.Goals as goal

pub returns-then-height-eq0 : goal.returns-then-height-eq0
returns-then-height-eq0 t c = put_leaf c.args.nodes.now.items c.add.new.nodes.items c.args.height c.args.number c.args.key c.args.value c.in_ok-added.added c.leaf.result c.requires.closed c.if-height-eq0.true c.leaf.ensures c.in_ok-added.ensures.number c.in_ok-added.ensures.added

pub returns : goal.returns
returns t c = put_side c.args.nodes.now.items c.put.new.nodes.items c.add-2.new.nodes.items c.args.height (c.args.height - 1) c.args.number c.args.key c.args.value c.in_ok-child.child c.in_ok-added-2.added (is_odd c.args.key) c.node_at-node.result c.with_side.result (let f = c.if-height-eq0.false in grind arith) refl (c.node_at-node.ensures ∙ ap (λ xs. node_at xs c.args.number) c.as_slice.ensures.value) c.with_side.ensures c.requires.closed c.requires.there (search rules) c.in_ok-added-2.ensures.number c.in_ok-added-2.ensures.added
