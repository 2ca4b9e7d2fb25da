use Rattle.std.proofs.Common.{◌∙◌}
use Rattle.jn_cert_form.proofs.Marks.{assigned_at}
use Rattle.jn_cert_form.proofs.facts.is_assigned.Goals as goal

pub returns : goal.returns
returns c =
    let k = c.args.keyed.now in
    c.has_assigned_at.ensures ∙ assigned_at k.program.now k.body.0 k.own.now c.args.env.now.assigned c.args.at c.args.field k.fields c.requires.long c.requires.inside c.requires.field
