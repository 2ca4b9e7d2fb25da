use Rattle.std.proofs.Common.{◌≡◌, ◌∙◌, sym, arith, take}
use Rattle.jn_lexer.specs.Characters.{width}
use Rattle.jn_lexer.proofs.Widths.{width-split, width_alone}
use Rattle.jn_lexer.proofs.characters.front_width.Goals as goal

pub width-requires : goal.width-requires
width-requires c = let s = width-split c.args.count c.args.text.now in let w = c.requires.whole in let f = c.requires.fits in omega (arith, s, w, f)

pub returns-then-bytes-text-clause-value : goal.returns-then-bytes-text-clause-value
returns-then-bytes-text-clause-value c = width_alone c.args.count c.args.text.now c.requires.within (sym c.requires.whole ∙ c.if-bytes-text.true)

pub returns-then-bytes-text-clause-rest : goal.returns-then-bytes-text-clause-rest
returns-then-bytes-text-clause-rest c =
    let a : c.args.count ≡ width (take c.args.count c.args.text.now) = width_alone c.args.count c.args.text.now c.requires.within (sym c.requires.whole ∙ c.if-bytes-text.true) in
    let s = width-split c.args.count c.args.text.now in
    let w = c.requires.whole in
    omega (arith, a, s, w)

pub returns-else-bytes-text-clause-rest : goal.returns-else-bytes-text-clause-rest
returns-else-bytes-text-clause-rest c =
    let s = width-split c.args.count c.args.text.now in
    let v = c.width.ensures in
    let w = c.requires.whole in
    omega (arith, s, v, w)
