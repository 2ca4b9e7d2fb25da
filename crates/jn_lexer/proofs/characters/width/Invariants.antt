use Rattle.std.proofs.Common.{◌≡◌, ◌+◌, drop}
use Rattle.jn_lexer.specs.Characters.{width}
use Rattle.jn_lexer.proofs.characters.width.Given as goal

abbrev pub invariant-loop-c : goal.invariant-loop-c
invariant-loop-c l = l.bytes + width (drop l.c-index l.text) ≡ width l.text
