use Rattle.std.proofs.Common.{rules, List, Option, ℕ, refl, subst}
use Rattle.jn_member_tables.specs.declared.tables.Entry.{Entry}
use Rattle.jn_member_tables.specs.Tables.{IsJoined}
use Rattle.jn_member_tables.proofs.Filled.{more_trees}
use Rattle.jn_member_tables.proofs.tables.add_tree.Goals as goal

pub returns-clause-are : goal.returns-clause-are
returns-clause-are c =
    let nodes = c.args.nodes.now.items in
    let more = c.join.new.nodes.items in
    let x = c.in-Some.info.now in
    let h = c.args.height in
    let r = c.in_ok-root.root in
    let at_roots = subst (λ (os : List (Option ℕ)). IsJoined nodes more h os x c.entries_at.result.now r) c.as_slice-3.ensures.value c.in_ok-root.ensures in
    let joined = subst (λ (es : List Entry). IsJoined nodes more h c.args.roots.now.items x es r) c.entries_at.ensures at_roots in
    more_trees c.args.roots.now.items _ c.args.class r refl (search rules) c.args.program.now c.args.own.now h x nodes more c.in-Some.ensures (search rules) (search rules) joined c.requires
