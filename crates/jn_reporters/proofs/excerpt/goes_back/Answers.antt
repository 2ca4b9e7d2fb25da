use Rattle.std.proofs.Common.{◌≡◌, ◌<◌, ◌∙◌, ap, take, arith}
use Rattle.jn_base.specs.Place.{last_line}
use Rattle.jn_reporters.specs.Excerpts.{last_characters}
use Rattle.jn_reporters.proofs.Around.{at_start, back_ends, none_last}
use Rattle.jn_reporters.proofs.excerpt.goes_back.Goals as goal

pub returns-then-at-eq0-clause-no : goal.returns-then-at-eq0-clause-no
returns-then-at-eq0-clause-no c = λ no.
    let none : c.args.at ≡ 0 = omega (arith, c.if-at-eq0.true) in
    ap (last_characters c.args.left) (at_start c.args.text.now c.args.at none)

pub returns-then-left-eq0-clause-no : goal.returns-then-left-eq0-clause-no
returns-then-left-eq0-clause-no c = λ no.
    let none : c.args.left ≡ 0 = omega (arith, c.if-left-eq0.true) in
    ap (λ n. last_characters n (last_line (take c.args.at c.args.text.now))) none ∙ none_last (last_line (take c.args.at c.args.text.now))

pub returns-clause-no : goal.returns-clause-no
returns-clause-no c =
    let other = c.if-at-eq0.false in
    let some : 0 < c.args.at = omega (arith, other) in
    back_ends c.args.text.now c.args.at c.args.left c.is_line_end.result some c.requires c.is_line_end.ensures
