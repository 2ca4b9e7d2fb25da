use Rattle.std.proofs.Common.{◌≡◌, ◌+◌, drop}
use Rattle.jn_lsp.specs.Front.{before_token}
use Rattle.jn_lsp.specs.declared.front.Gap.TheVariants.{Blank}
use Rattle.jn_lsp.proofs.front.before_token.Given as goal

abbrev pub invariant-loop-at : goal.invariant-loop-at
invariant-loop-at l = l.at + before_token l.gap (drop l.at l.text) ≡ before_token Blank l.text
