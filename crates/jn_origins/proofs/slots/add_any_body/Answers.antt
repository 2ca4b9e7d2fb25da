use Rattle.std.proofs.Common.{[], ap, arith}
use Rattle.std.specs.Prelude.{length, slice_index_or}
use Rattle.jn_points.specs.declared.program.Program.{Program}
use Rattle.jn_origins.proofs.Sending.{none_added}
use Rattle.jn_origins.proofs.slots.add_any_body.Goals as goal

pub returns-else-body-len : goal.returns-else-body-len
returns-else-body-len c =
    let G = c.args.origins.now in
    let many = c.len.ensures in
    let same = ap (λ (P : Program). length P.bodies) c.program.ensures in
    none_added G.program c.args.body.0 (slice_index_or G.tables c.args.body.0 []) c.args.slot.0 c.args.bit c.args.list.now.items (omega (arith, c.if-body-len.false, many, same))
