use Rattle.std.proofs.Common.{◌≡◌, ◌≤◌, ◌++◌, drop, length}
use Rattle.std.specs.Prelude.{vec_len, vec_capacity}
use Rattle.jn_lexer.proofs.lexing.ascii_characters.Given as goal

abbrev pub invariant-loop-byte : goal.invariant-loop-byte
invariant-loop-byte l = record {
  items : l.characters.items ++ drop l.byte-index l.bytes ≡ l.bytes;
  len : vec_len l.characters ≡ l.byte-index;
  room : length l.bytes ≤ vec_capacity l.characters;
}
