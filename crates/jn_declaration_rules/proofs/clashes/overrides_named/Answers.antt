use Rattle.std.proofs.Common.{◌&&◌, not, ap, ◌∙◌}
use Rattle.jn_points.specs.Lookup.{method_at}
use Rattle.jn_points.specs.Members as members
use Rattle.jn_member_tables.specs.Numbers.{passes}
use Rattle.jn_declaration_rules.specs.Rows as spec
use Rattle.jn_declaration_rules.proofs.ByName.{clashes_named}
use Rattle.jn_declaration_rules.proofs.clashes.overrides_named.Goals as goal

pub loop-k-init : goal.loop-k-init
loop-k-init c =
    ap (members.some_of (λ k. passes (λ y. members.is_pair c.args.program.now c.args.m k && not (spec.agrees c.args.program.now c.args.over.now y)) (method_at c.args.program.now k))) c.named-named.ensures
    ∙ clashes_named c.args.program.now c.index-index.result.now c.args.m c.args.over.now c.index-index.ensures c.requires.there
