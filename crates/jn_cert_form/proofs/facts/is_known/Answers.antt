use Rattle.std.proofs.Common.{◌∙◌}
use Rattle.jn_cert_form.proofs.Marks.{known_at}
use Rattle.jn_cert_form.proofs.facts.is_known.Goals as goal

pub returns : goal.returns
returns c =
    let k = c.args.keyed.now in
    c.has_fact_at.ensures ∙ known_at k.program.now k.body.0 k.keys.now.facts k.sorted.now k.places.now c.args.env.now.facts c.args.at c.place_in.result c.args.key k.are.facts k.order k.standing c.requires.long c.requires.inside c.requires.key c.place_in.ensures
