use Rattle.std.proofs.Common.{◌+◌, ◌∙◌, ap, take, drop, ◌∷◌}
use Rattle.jn_script.proofs.Cutting.{some_piece}
use Rattle.jn_script.proofs.lines.third.Goals as goal

pub returns-in-Some : goal.returns-in-Some
returns-in-Some c line are =
    let at = c.in-Some.field-0 in
    let one = c.args.one.now in
    let two = c.args.two.now in
    let rest = c.args.rest.now in
    let p = some_piece 32 (drop (at + 1) rest) in
    record {
      one = one;
      two = two;
      three = take at rest;
      four = p.0;
      rest = p.1;
      are = are ∙ ap (λ ps. one ∷ two ∷ ps) c.in-Some.ensures.1 ∙ ap (λ ps. one ∷ two ∷ take at rest ∷ ps) p.2;
    }
