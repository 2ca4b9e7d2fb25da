use Rattle.std.proofs.Common.{◌≡◌, ◌+◌, drop}
use Rattle.std.specs.List.{prefix_len}
use Rattle.jn_lexer.specs.Characters.{is_part}
use Rattle.jn_lexer.proofs.words.run_len.Given as goal

abbrev pub invariant-loop-i : goal.invariant-loop-i
invariant-loop-i l = l.i + prefix_len is_part (drop l.i l.text) ≡ prefix_len is_part l.text
