use Rattle.std.proofs.Common.{◌≡◌, ◌+◌, ◌≤◌, length, take, drop, sym, subst, arith}
use Rattle.std.proofs.lemmas.List.{length-drop}
use Rattle.jn_lexer.specs.Moved.{LexedOnto}
use Rattle.jn_lex_shared.specs.Cut.{IsCut}
use Rattle.jn_lex_shared.proofs.Windows.{GoesOn, window_more, few_more}
use Rattle.jn_lex_shared.proofs.alone.put_windows.Goals as goal

pub loop-cut-preserved : goal.loop-cut-preserved
loop-cut-preserved c =
    let rest = c.loop-cut.rest.now in
    let cut = c.in-Some.cut in
    let is : IsCut c.in-Some.cut c.loop-cut.rest.now = c.in-Some.ensures in
    let front : c.split_at.result.0.now ≡ take c.in-Some.cut c.loop-cut.rest.now = c.split_at.ensures.front in
    let back : c.split_at.result.1.now ≡ drop c.in-Some.cut c.loop-cut.rest.now = c.split_at.ensures.back in
    let window : LexedOnto c.args.file (take cut rest) c.loop-cut.from c.loop-cut.names c.loop-cut.tokens.items c.lex_onto.new.names c.lex_onto.new.tokens.items =
    subst (λ t. LexedOnto c.args.file t c.loop-cut.from c.loop-cut.names c.loop-cut.tokens.items c.lex_onto.new.names c.lex_onto.new.tokens.items) front c.in_ok-lex_onto.ensures.ok in
    let next = window_more c.args.file c.args.text.now c.args.at c.args.names.now c.args.tokens.now.items rest c.loop-cut.from c.loop-cut.names c.loop-cut.tokens.items cut is c.loop-cut.invariant.goes_on c.lex_onto.new.names c.lex_onto.new.tokens.items window in
    let few : length c.lex_onto.new.names + length (drop cut rest) ≤ length c.loop-cut.names + length rest = few_more c.args.file rest c.loop-cut.from cut c.loop-cut.names c.lex_onto.new.names c.loop-cut.tokens.items c.lex_onto.new.tokens.items is window in
    let left = length-drop cut rest in
    let within = is.0 in
    let places = c.loop-cut.invariant.places in
    let room = c.loop-cut.invariant.room in
    record {
      goes_on = subst (λ t. GoesOn c.args.file c.args.text.now c.args.at c.args.names.now c.args.tokens.now.items t (c.loop-cut.from + cut) c.lex_onto.new.names c.lex_onto.new.tokens.items) (sym back) next;
      places = subst (λ t. c.loop-cut.from + cut + length t ≡ c.args.at + length c.args.text.now) (sym back) (omega (arith, left, within, places));
      room = subst (λ t. length c.lex_onto.new.names + length t ≤ length c.args.names.now + length c.args.text.now) (sym back) (omega (arith, few, room));
    }
