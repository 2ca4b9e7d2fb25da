use Rattle.std.proofs.Common.{◌≡◌, drop, false}
use Rattle.jn_lexer.specs.Scan.{string_len, shifted}
use Rattle.jn_lexer.proofs.strings.string_len.Given as goal

abbrev pub invariant-loop-i : goal.invariant-loop-i
invariant-loop-i l = shifted l.i (string_len l.slash (drop l.i l.text)) ≡ string_len false l.text
