use Rattle.std.proofs.Common.{refl, ap, arith, ◌+◌}
use Rattle.jn_lexer.proofs.Widths.{width-split, width-at, width-one, get-at}
use Rattle.jn_lexer.proofs.lexing.row_at.Goals as goal

pub width-requires : goal.width-requires
width-requires c = let s = width-split c.args.fault.before c.args.text.now in let f = c.requires.fits in omega (arith, s, f)

pub overflow_cast-from : goal.overflow_cast-from
overflow_cast-from c = let s = width-split c.args.fault.before c.args.text.now in let f = c.requires.fits in let w = c.width.ensures in omega (arith, s, f, w)

pub overflow_add-from : goal.overflow_add-from
overflow_add-from c = let s = width-split c.args.fault.before c.args.text.now in let f = c.requires.fits in let w = c.width.ensures in omega (arith, s, f, w)

pub overflow_add-to : goal.overflow_add-to
overflow_add-to c =
    let s = width-at c.args.fault.before c.args.text.now c.index-text-fault.result c.requires.before c.index-text-fault.is in
    let f = c.requires.fits in
    let w = c.width.ensures in
    let l = c.len_utf8.ensures.value in
    omega (arith, s, f, w, l)

pub returns-clause-place : goal.returns-clause-place
returns-clause-place c = (
  c.index-text-fault.result,
  get-at c.args.fault.before c.args.text.now c.index-text-fault.result c.requires.before c.index-text-fault.is,
  record {
    file_is = refl;
    from = ap (λ n. c.args.at + n) c.width.ensures;
    to = (let w = c.width.ensures in let l = c.len_utf8.ensures.value in let o = width-one c.index-text-fault.result in omega (arith, w, l, o));
  },
)
