use Rattle.std.proofs.Common.{◌≡◌, drop}
use Rattle.std.specs.Prelude.{find}
use Rattle.jn_lexer.specs.Scan.{begins}
use Rattle.jn_lexer.specs.Spelling.{spelling}
use Rattle.jn_lexer.proofs.spelling.kind_begun.Given as goal

abbrev pub invariant-loop-kind : goal.invariant-loop-kind
invariant-loop-kind l = find (λ kind. begins l.text (spelling kind)) (drop l.kind-index l.kinds) ≡ find (λ kind. begins l.text (spelling kind)) l.kinds
