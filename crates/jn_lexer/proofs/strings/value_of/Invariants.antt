use Rattle.std.proofs.Common.{◌≡◌, ◌++◌, drop, false}
use Rattle.std.specs.Prelude.{string_bytes, encode_utf8_all}
use Rattle.jn_lexer.specs.Scan.{unescaped}
use Rattle.jn_lexer.proofs.strings.value_of.Given as goal

abbrev pub invariant-loop-c : goal.invariant-loop-c
invariant-loop-c l = string_bytes l.text ++ encode_utf8_all (unescaped l.slash (drop l.c-index l.inside)) ≡ encode_utf8_all (unescaped false l.inside)
