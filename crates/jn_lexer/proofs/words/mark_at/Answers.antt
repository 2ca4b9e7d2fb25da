use Rattle.std.proofs.Common.{◌∙◌, sym}
use Rattle.jn_lexer.proofs.Standing.{pair_token, single_token, no_token}
use Rattle.jn_lexer.proofs.words.mark_at.Goals as goal

pub returns-in-Some : goal.returns-in-Some
returns-in-Some c = pair_token c.args.text.now c.requires.place c.in-Some.kind (sym c.pair.ensures ∙ c.in-Some.is)

pub returns-in-Some-single : goal.returns-in-Some-single
returns-in-Some-single c = single_token c.args.text.now c.requires.place (sym c.pair.ensures ∙ c.in_default.is) c.requires.no_bad_dot c.in-Some-single.kind (sym c.single.ensures ∙ c.in-Some-single.is)

pub returns : goal.returns
returns c = no_token c.args.text.now c.requires.place (sym c.pair.ensures ∙ c.in_default.is) (sym c.single.ensures ∙ c.in_default-single.is)
