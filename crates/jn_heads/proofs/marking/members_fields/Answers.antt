use Rattle.std.proofs.Common.{◌++◌, ap, ◌∙◌}
use Rattle.jn_places.specs.PlacedView.{placed_member}
use Rattle.jn_heads.specs.Inferred as spec
use Rattle.jn_heads.specs.Types as types
use Rattle.jn_heads.proofs.SlotLoops.{fields_more}
use Rattle.jn_heads.proofs.marking.members_fields.Goals as goal

pub loop-member-preserved : goal.loop-member-preserved
loop-member-preserved c =
    let hs = c.args.declared.now in
    let slots = c.loop-member.slots in
    fields_more hs c.args.infer c.args.interface c.args.members.now c.loop-member.member-index c.member-item.result slots c.member_fields.new.slots _ c.loop-member-test.true
    (c.in_ok-member_fields.ensures ∙ ap (λ m. slots ++ types.fields_slots hs (spec.field_marks c.args.infer c.args.interface (placed_member m))) c.member-item.is) c.loop-member.invariant
