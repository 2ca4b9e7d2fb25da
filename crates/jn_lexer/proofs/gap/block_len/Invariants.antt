use Rattle.std.proofs.Common.{◌≡◌, drop, false}
use Rattle.jn_lexer.specs.Scan.{block_len, shifted}
use Rattle.jn_lexer.proofs.gap.block_len.Given as goal

abbrev pub invariant-loop-i : goal.invariant-loop-i
invariant-loop-i l = shifted l.i (block_len l.star (drop l.i l.text)) ≡ block_len false l.text
