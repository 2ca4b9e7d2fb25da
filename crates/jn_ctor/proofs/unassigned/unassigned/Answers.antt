use Rattle.std.proofs.Common.{ℕ, ◌++◌, ◌∷◌, [], cond, refl, ap, ◌∙◌}
use Rattle.std.specs.Prelude.{slice_index_or}
use Rattle.jn_base.specs.declared.number.FieldNo.{FieldNo}
use Rattle.jn_ctor.specs.Unassigned.{lacks_from}
use Rattle.jn_ctor.proofs.Along.{field_step}
use Rattle.jn_ctor.proofs.unassigned.unassigned.Goals as goal

pub loop-field-preserved : goal.loop-field-preserved
loop-field-preserved c =
    let own = c.args.own.now in
    let p = λ (f : ℕ). lacks_from own f c.args.points.now 0 c.args.slots.now in
    let field : FieldNo = record { 0 = slice_index_or own c.loop-field.field-index 0 } in
    let m = c.in_ok-push_if.ensures in
    field_step p own c.loop-field.field-index 0 field c.loop-field.fields.items c.push_if.new.fields.items _ c.loop-field-test.true refl (m ∙ ap (λ w. c.loop-field.fields.items ++ cond w (field ∷ []) []) c.is_left-wanted.ensures) c.loop-field.invariant
