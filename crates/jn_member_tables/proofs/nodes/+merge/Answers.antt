use Rattle.std.proofs.Common.{rules, arith, ap, ◌∙◌}
use Rattle.jn_member_tables.specs.Nodes.{node_at}
use Rattle.jn_member_tables.proofs.Puts.{merge_first, merge_second, merge_leaf, merge_sides, sides_there, same_grown}
use Rattle.jn_member_tables.proofs.nodes.+merge.Goals as goal

pub returns-then-second-eq0 : goal.returns-then-second-eq0
returns-then-second-eq0 t c = merge_second c.args.nodes.now.items c.args.height c.args.first c.args.second c.requires.closed c.requires.first (search rules)

pub returns-then-first-eq0 : goal.returns-then-first-eq0
returns-then-first-eq0 t c = merge_first c.args.nodes.now.items c.args.height c.args.first c.args.second c.requires.closed c.requires.second (search rules)

pub merge-requires : goal.merge-requires
merge-requires t c =
    let one = sides_there c.args.nodes.now.items c.args.nodes.now.items c.args.first c.args.first c.node_at-one.result c.requires.closed c.requires.first (same_grown c.args.nodes.now.items c.args.first c.requires.closed c.requires.first) (c.node_at-one.ensures ∙ ap (λ xs. node_at xs c.args.first) c.as_slice.ensures.value) in
    let other = sides_there c.args.nodes.now.items c.args.nodes.now.items c.args.second c.args.second c.node_at-other.result c.requires.closed c.requires.second (same_grown c.args.nodes.now.items c.args.second c.requires.closed c.requires.second) (c.node_at-other.ensures ∙ ap (λ xs. node_at xs c.args.second) c.as_slice-2.ensures.value) in
    (search rules, (c.requires.closed, (one.0, other.0)))

pub merge-requires-2 : goal.merge-requires-2
merge-requires-2 t c =
    let one = sides_there c.args.nodes.now.items c.merge.new.nodes.items c.args.first _ c.node_at-one.result c.requires.closed c.requires.first c.in_ok-left.ensures.grown (c.node_at-one.ensures ∙ ap (λ xs. node_at xs c.args.first) c.as_slice.ensures.value) in
    let other = sides_there c.args.nodes.now.items c.merge.new.nodes.items c.args.second _ c.node_at-other.result c.requires.closed c.requires.second c.in_ok-left.ensures.grown (c.node_at-other.ensures ∙ ap (λ xs. node_at xs c.args.second) c.as_slice-2.ensures.value) in
    (search rules, (c.in_ok-left.ensures.grown.closed, (one.1, other.1)))

pub returns : goal.returns
returns t c = merge_sides c.args.nodes.now.items c.merge.new.nodes.items c.merge-2.new.nodes.items c.add.new.nodes.items c.args.height _ c.args.first c.args.second c.in_ok-left.left c.in_ok-right.right c.in_ok-added.added c.node_at-one.result c.node_at-other.result (let f = c.if-height-eq0.false in grind arith) c.requires.closed c.requires.first c.requires.second (c.node_at-one.ensures ∙ ap (λ xs. node_at xs c.args.first) c.as_slice.ensures.value) (c.node_at-other.ensures ∙ ap (λ xs. node_at xs c.args.second) c.as_slice-2.ensures.value) c.in_ok-left.ensures c.in_ok-right.ensures c.in_ok-added.ensures.number c.in_ok-added.ensures.added
