use Rattle.std.proofs.Common.{◌≡◌, sym, ap, ◌∙◌, Some}
use Rattle.jn_trees.specs.Pieces.{kinds}
use Rattle.jn_trees.specs.Trees.{Trees}
use Rattle.jn_trees.specs.View.{views}
use Rattle.jn_parse_expr_law.specs.Reader.{reader, TryAll}
use Rattle.jn_parse_stmt_law.specs.Parts.{then_read, ended, read_initial}
use Rattle.jn_parse_stmt.proofs.Items.{not_empty, none_ends}
use Rattle.jn_parse_stmt.proofs.lists.initial.Goals as goal

pub returns-in-Some : goal.returns-in-Some
returns-in-Some c =
    ap (λ ts. read_initial (reader c.args.depth).whole ts) c.in-Some.ensures ∙ ap (λ xs. Some (views xs, kinds c.in-Some.rest.now)) (sym c.new.ensures.items)

pub returns-in-None-2 : goal.returns-in-None-2
returns-in-None-2 c =
    not_empty (reader c.args.depth).whole (kinds c.args.tokens.now) c.in-None.ensures
    ∙ ap (λ (o : TryAll). then_read o (ended {A = Trees})) (rw c.in-None-2.is at c.in_ok-items-in-None.ensures)

pub returns-in-None-expect : goal.returns-in-None-expect
returns-in-None-expect c =
    not_empty (reader c.args.depth).whole (kinds c.args.tokens.now) c.in-None.ensures
    ∙ ap (λ (o : TryAll). then_read o (ended {A = Trees})) (rw c.in-Some-2.is at c.in_ok-items-in-None.ensures)
    ∙ none_ends (views c.in-Some-2.expressions.items) (kinds c.in-Some-2.after.now) c.in-None-expect.ensures

pub returns-in-Some-expect : goal.returns-in-Some-expect
returns-in-Some-expect c =
    not_empty (reader c.args.depth).whole (kinds c.args.tokens.now) c.in-None.ensures
    ∙ ap (λ (o : TryAll). then_read o (ended {A = Trees})) (rw c.in-Some-2.is at c.in_ok-items-in-None.ensures)
    ∙ ap (λ ts. ended (views c.in-Some-2.expressions.items) ts) c.in-Some-expect.ensures
