use Rattle.std.proofs.Common.{sym, ap, ◌∙◌}
use Rattle.std.proofs.lemmas.List.{drop-map, take_rest}
use Rattle.jn_trees.specs.declared.token.Token.{Token}
use Rattle.jn_trees.specs.Pieces.{kinds}
use Rattle.jn_parse_expr.proofs.tokens_from.Goals as goal

pub returns : goal.returns
returns c = ap kinds (take_rest c.args.tokens.now c.args.at) ∙ sym (drop-map (λ (t : Token). t.kind) c.args.at c.args.tokens.now)
