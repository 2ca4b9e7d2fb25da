use Rattle.std.proofs.Common.{◌≡◌, ℕ, ◌+◌, ap, arith, drop, take}
use Rattle.std.proofs.lemmas.List.{take_rest}
use Rattle.std.specs.Prelude.{Some, slice_get}
use Rattle.jn_lexer.specs.Characters.{width}
use Rattle.jn_lexer.specs.Faults.{IsAtCharacter}
use Rattle.jn_lexer.specs.Found.{IsFaultHere}
use Rattle.jn_lexer.proofs.Widths.{length-width}
use Rattle.jn_lexer.proofs.Reading.{fault_next, open_next}
use Rattle.jn_lexer.proofs.lexing.next_token.Goals as goal

pub gap_len-requires : goal.gap_len-requires
gap_len-requires c = let l = length-width c.args.text.now in let w = c.requires.whole in let f = c.requires.fits in omega (arith, l, w, f)

pub returns-in-Err : goal.returns-in-Err
returns-in-Err c = open_next c.args.file c.args.text.now c.args.at c.in-Err.before c.row_at.result c.in-Err.ensures.within c.in-Err.ensures.gap c.in-Err.ensures.ends c.row_at.ensures.code c.row_at.ensures.place

pub token_at-requires-clause-fits : goal.token_at-requires-clause-fits
token_at-requires-clause-fits c = rw take_rest (let l = length-width (drop c.in-Ok.gap c.args.text.now) in let r = c.front_width-before.ensures.rest in let f = c.requires.fits in omega (arith, l, r, f))

pub front_width-requires-clause-whole : goal.front_width-requires-clause-whole
front_width-requires-clause-whole c = rw take_rest (let r = c.front_width-before.ensures.rest in omega (arith, r))

pub row_at-requires-in-Err-token_at-clause-fits : goal.row_at-requires-in-Err-token_at-clause-fits
row_at-requires-in-Err-token_at-clause-fits c = rw take_rest (let r = c.front_width-before.ensures.rest in let f = c.requires.fits in omega (arith, r, f))

pub returns-in-Err-token_at : goal.returns-in-Err-token_at
returns-in-Err-token_at c =
    let here : IsFaultHere (drop c.in-Ok.gap c.args.text.now) c.in-Err-token_at.fault = rw take_rest at c.in-Err-token_at.ensures in
    let start = c.args.at + c.front_width-before.result in
    let place : (x : ℕ) × (slice_get (drop c.in-Ok.gap c.args.text.now) c.in-Err-token_at.fault.before ≡ Some x) × IsAtCharacter c.args.file (c.args.at + c.front_width-before.result + width (take c.in-Err-token_at.fault.before (drop c.in-Ok.gap c.args.text.now))) x c.row_at-in-Err-token_at.result = rw take_rest at c.row_at-in-Err-token_at.ensures.place in
    fault_next c.args.file c.args.text.now c.args.at c.in-Ok.gap c.in-Err-token_at.fault c.row_at-in-Err-token_at.result start c.in-Ok.ensures.gap here c.row_at-in-Err-token_at.ensures.code (ap (λ n. c.args.at + n) c.front_width-before.ensures.value) place
