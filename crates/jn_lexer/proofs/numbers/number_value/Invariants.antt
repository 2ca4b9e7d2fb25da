use Rattle.std.proofs.Common.{◌≡◌, ◌≤◌, drop}
use Rattle.jn_lexer.specs.Lexemes.{value_from}
use Rattle.jn_lexer.proofs.numbers.number_value.Given as goal

abbrev pub invariant-loop-c : goal.invariant-loop-c
invariant-loop-c l = record {
  value : value_from l.value (drop l.c-index l.word) ≡ value_from 0 l.word;
  small : l.value ≤ 2147483648;
}
