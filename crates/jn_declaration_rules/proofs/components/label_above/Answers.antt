use Rattle.std.proofs.Common.{ap, List, slice_index_or}
use Rattle.jn_base.specs.declared.number.ClassNo.{ClassNo}
use Rattle.jn_declaration_rules.proofs.Strong.{above_more}
use Rattle.jn_declaration_rules.proofs.components.label_above.Goals as goal

pub returns-then-labels-parent-eq0 : goal.returns-then-labels-parent-eq0
returns-then-labels-parent-eq0 c =
    let first : ClassNo = record { 0 = 0 } in
    above_more c.args.program.now c.args.labels.now c.args.class c.args.place (slice_index_or c.as_slice.result.now c.args.place first).0 c.number_at.result first c.args.info.now c.requires.there c.requires.place (ap (λ (xs : List ClassNo). (slice_index_or xs c.args.place first).0) c.as_slice.ensures) c.if-parent-labels.true c.number_at.ensures c.requires.above
