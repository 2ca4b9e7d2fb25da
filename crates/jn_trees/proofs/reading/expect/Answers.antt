use Rattle.std.proofs.Common.{◌∷◌, sym, ap, ◌∙◌}
use Rattle.jn_trees.specs.Pieces.{kinds}
use Rattle.jn_trees.proofs.SameTokens.{same_tokens, other_token}
use Rattle.jn_trees.proofs.reading.expect.Goals as goal

pub returns-then-eq : goal.returns-then-eq
returns-then-eq c = ap kinds c.in-Some.ensures ∙ ap (λ k. k ∷ kinds c.in-Some.rest.now) ((same_tokens c.in-Some.first.kind c.args.kind).0 (sym c.eq.ensures ∙ c.if-eq.true))

pub returns-else-eq : goal.returns-else-eq
returns-else-eq c = other_token c.in-Some.first.kind c.args.kind (kinds c.args.tokens.now) (kinds c.in-Some.rest.now) (sym c.eq.ensures ∙ c.if-eq.false) (ap kinds c.in-Some.ensures)
