use Rattle.std.proofs.Common.{◌≡◌, ◌≤◌, ◌+◌, length}
use Rattle.jn_lexer.specs.Characters.{width}
use Rattle.jn_lexer.proofs.Onto.{IsReadOnto}
use Rattle.jn_lexer.proofs.lexing.tokens_onto.Given as goal

abbrev pub invariant-loop-next : goal.invariant-loop-next
invariant-loop-next l = record {
  read : IsReadOnto l.file l.text l.by l.fn.names l.fn.tokens.items l.rest l.at l.tokens.items l.names;
  places : l.at + width l.rest ≡ length l.decoded;
  room : length l.names + length l.rest ≤ length l.fn.names + length l.decoded;
}

abbrev pub decreases-loop-next : goal.decreases-loop-next
decreases-loop-next l = length l.rest
