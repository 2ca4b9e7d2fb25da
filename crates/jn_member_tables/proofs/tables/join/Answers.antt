use Rattle.std.proofs.Common.{List, subst}
use Rattle.jn_base.specs.declared.number.ClassNo.{ClassNo}
use Rattle.jn_member_tables.specs.Tables.{IsBeside}
use Rattle.jn_member_tables.proofs.Joins.{joined}
use Rattle.jn_member_tables.proofs.tables.join.Goals as goal

pub returns : goal.returns
returns c =
    let old = c.args.nodes.now.items in
    let mid = c.merge_others.new.nodes.items in
    let x = c.args.info.now in
    let beside = subst (λ (ss : List ClassNo). IsBeside old mid c.args.height c.parent_root-first.result c.args.roots.now x.parent ss c.in_ok-above.above) c.as_slice.ensures c.in_ok-above.ensures in
    joined old mid c.put_all.new.nodes.items c.args.height c.args.roots.now x c.args.entries.now c.parent_root-first.result c.in_ok-above.above c.in_ok-root.root c.requires.closed c.parent_root-first.ensures beside c.in_ok-root.ensures
