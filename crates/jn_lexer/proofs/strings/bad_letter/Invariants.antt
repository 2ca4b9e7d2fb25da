use Rattle.std.proofs.Common.{◌≡◌, drop, false}
use Rattle.jn_lexer.specs.Scan.{bad_letter, shifted}
use Rattle.jn_lexer.proofs.strings.bad_letter.Given as goal

abbrev pub invariant-loop-i : goal.invariant-loop-i
invariant-loop-i l = shifted l.i (bad_letter l.slash (drop l.i l.inside)) ≡ bad_letter false l.inside
