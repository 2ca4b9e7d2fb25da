use Rattle.std.proofs.Common.{◌≡◌, drop, false}
use Rattle.jn_lexer.specs.Scan.{escape_at, shifted}
use Rattle.jn_lexer.proofs.lexing.escape_at.Given as goal

abbrev pub invariant-loop-i : goal.invariant-loop-i
invariant-loop-i l = shifted l.i (escape_at l.slash (drop l.i l.text)) ≡ escape_at false l.text
