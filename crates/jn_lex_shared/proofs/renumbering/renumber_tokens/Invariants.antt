use Rattle.jn_renumber.specs.Tokens.{token_by}
use Rattle.jn_renumber.proofs.Lists.{Changing}
use Rattle.jn_lex_shared.proofs.renumbering.renumber_tokens.Given as goal

abbrev pub invariant-loop-at : goal.invariant-loop-at
invariant-loop-at l = Changing (token_by l.numbers) l.initial.tokens.items l.tokens.items l.at
