use Rattle.std.proofs.Common.{◌≡◌, sym, ap, ◌∙◌, subst, Some, None}
use Rattle.jn_trees.specs.Longest.{IsLongestStatement}
use Rattle.jn_trees.specs.Pieces.{kinds}
use Rattle.jn_trees.specs.View.{statement_view}
use Rattle.jn_parse_stmt.proofs.Starts.{same_read}
use Rattle.jn_parse_stmt.proofs.read_statement.Goals as goal

pub returns-in-None : goal.returns-in-None
returns-in-None c =
    let ts = kinds c.args.tokens.now in
    subst (λ x. IsLongestStatement c.args.context c.args.depth ts x)
    (sym (same_read c.args.context c.args.depth ts) ∙ (rw c.in-None.is at c.in_ok-statement.ensures))
    (c.statements_are_read_once.ensures.longest c.args.context c.args.depth ts)

pub returns-in-Some : goal.returns-in-Some
returns-in-Some c =
    let ts = kinds c.args.tokens.now in
    let read = rw c.in-Some.is at c.in_ok-statement.ensures in
    subst (λ x. IsLongestStatement c.args.context c.args.depth ts x)
    (sym (same_read c.args.context c.args.depth ts) ∙ read ∙ ap (λ s. Some (statement_view s, kinds c.in-Some.rest.now)) (sym c.into_inner.ensures))
    (c.statements_are_read_once.ensures.longest c.args.context c.args.depth ts)
