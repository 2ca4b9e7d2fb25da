use Rattle.std.proofs.Common.{◌≡◌, drop}
use Rattle.std.specs.Prelude.{find}
use Rattle.jn_lexer.specs.Scan.{is_spelled}
use Rattle.jn_lexer.specs.Spelling.{spelling}
use Rattle.jn_lexer.proofs.spelling.kind_spelled.Given as goal

abbrev pub invariant-loop-kind : goal.invariant-loop-kind
invariant-loop-kind l = find (λ kind. is_spelled l.word (spelling kind)) (drop l.kind-index l.kinds) ≡ find (λ kind. is_spelled l.word (spelling kind)) l.kinds
