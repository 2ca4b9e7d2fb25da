use Rattle.std.proofs.Common.{◌∙◌, ap}
use Rattle.std.specs.Prelude.{max}
use Rattle.jn_base.specs.Place.{characters}
use Rattle.jn_reporters.specs.Excerpts.{first_line}
use Rattle.jn_reporters.proofs.Around.{as_many, most_is}
use Rattle.jn_reporters.proofs.excerpt.most_before.Goals as goal

pub returns : goal.returns
returns c =
    let line = first_line c.args.text.now in
    c.max.ensures ∙ ap (max 60) c.saturating_sub.ensures ∙ most_is c.characters.result (characters line) (c.characters.ensures ∙ ap characters c.front-shown.ensures.front ∙ as_many 60 line)
