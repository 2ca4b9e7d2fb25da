use Rattle.std.proofs.Common.{◌≡◌, sym, ap, ◌∙◌, Some}
use Rattle.jn_trees.specs.Pieces.{kinds}
use Rattle.jn_trees.specs.View.{views}
use Rattle.jn_parse_expr_law.specs.Reader.{reader, TryAll, arguments_in, bind_items, close_arguments}
use Rattle.jn_parse_stmt.proofs.Items.{not_closed, none_closes}
use Rattle.jn_parse_stmt.proofs.lists.arguments.Goals as goal

pub returns-in-Some : goal.returns-in-Some
returns-in-Some c =
    ap (λ ts. arguments_in (reader c.args.depth).whole ts) c.in-Some.ensures ∙ ap (λ xs. Some (views xs, kinds c.in-Some.rest.now)) (sym c.new.ensures.items)

pub returns-in-None-2 : goal.returns-in-None-2
returns-in-None-2 c =
    not_closed (reader c.args.depth).whole (kinds c.args.tokens.now) c.in-None.ensures
    ∙ ap (λ (o : TryAll). bind_items o close_arguments) (rw c.in-None-2.is at c.in_ok-items-in-None.ensures)

pub returns-in-None-expect : goal.returns-in-None-expect
returns-in-None-expect c =
    not_closed (reader c.args.depth).whole (kinds c.args.tokens.now) c.in-None.ensures
    ∙ ap (λ (o : TryAll). bind_items o close_arguments) (rw c.in-Some-2.is at c.in_ok-items-in-None.ensures)
    ∙ none_closes (views c.in-Some-2.arguments.items) (kinds c.in-Some-2.after.now) c.in-None-expect.ensures

pub returns-in-Some-expect : goal.returns-in-Some-expect
returns-in-Some-expect c =
    not_closed (reader c.args.depth).whole (kinds c.args.tokens.now) c.in-None.ensures
    ∙ ap (λ (o : TryAll). bind_items o close_arguments) (rw c.in-Some-2.is at c.in_ok-items-in-None.ensures)
    ∙ ap (λ ts. close_arguments (views c.in-Some-2.arguments.items) ts) c.in-Some-expect.ensures
