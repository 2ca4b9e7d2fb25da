use Rattle.std.proofs.Common.{◌∙◌, sym}
use Rattle.jn_lexer.proofs.Classes.{digit_bounds}
use Rattle.jn_lexer.proofs.numbers.with_digit.Goals as goal

pub overflow_sub-result : goal.overflow_sub-result
overflow_sub-result c = (digit_bounds c.args.c (sym c.is_digit.ensures ∙ c.if-is_digit.true)).0
