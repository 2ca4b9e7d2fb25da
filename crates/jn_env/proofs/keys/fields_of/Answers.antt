use Rattle.std.proofs.Common.{◌++◌, ◌∷◌, [], cond, filter, sym, ap, ◌∙◌, add-one}
use Rattle.jn_points.specs.Members.{below}
use Rattle.jn_env.specs.ClassFields.{is_field_of}
use Rattle.jn_env.proofs.Along.{filter_more}
use Rattle.jn_env.proofs.keys.fields_of.Goals as goal

pub loop-field-preserved : goal.loop-field-preserved
loop-field-preserved c =
    let f = c.loop-field.field in
    let p = is_field_of c.args.program.now c.args.class in
    rw add-one (c.in_ok-push_if.ensures ∙ ap (λ ks. ks ++ cond c.is_field_of-wanted.result (f ∷ []) []) c.loop-field.invariant ∙ ap (λ w. filter p (below f) ++ cond w (f ∷ []) []) c.is_field_of-wanted.ensures ∙ sym (filter_more p (below f) f))
