use Rattle.std.proofs.Common.{◌≡◌, drop}
use Rattle.jn_lexer.specs.Scan.{begins}
use Rattle.jn_lexer.proofs.spelling.begins.Given as goal

abbrev pub invariant-loop-i : goal.invariant-loop-i
invariant-loop-i l = begins (drop l.i l.text) (drop l.i l.word) ≡ begins l.text l.word
