use Rattle.jn_lexer.proofs.Values.{too_great}
use Rattle.jn_lexer.proofs.numbers.number_value.Goals as goal

pub returns-then-value-gt-LIMIT : goal.returns-then-value-gt-LIMIT
returns-then-value-gt-LIMIT c = too_great c.args.word.now c.loop-c.c-index c.loop-c.value c.with_digit-value.result c.c-item.result c.loop-c-test.true c.c-item.is c.loop-c.invariant.value c.with_digit-value.ensures c.if-value-gt-LIMIT.true
