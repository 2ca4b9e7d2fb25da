use Rattle.std.proofs.Common.{◌≡◌, ap, ◌∙◌, Some, Option}
use Rattle.jn_trees.specs.Pieces.{kinds}
use Rattle.jn_trees.specs.Trees.{Tree}
use Rattle.jn_trees.specs.View.{view}
use Rattle.jn_trees.specs.Longest.{Try}
use Rattle.jn_parse_expr_law.specs.Reader.{reader}
use Rattle.jn_parse_stmt_law.specs.Parts.{then_read, ended, read_optional}
use Rattle.jn_parse_stmt.proofs.Items.{not_absent, none_ends}
use Rattle.jn_parse_stmt.proofs.lists.optional.Goals as goal

pub returns-in-Some : goal.returns-in-Some
returns-in-Some c = ap (λ ts. read_optional (reader c.args.depth).whole ts) c.in-Some.ensures

pub returns-in-None-2 : goal.returns-in-None-2
returns-in-None-2 c =
    not_absent (reader c.args.depth).whole (kinds c.args.tokens.now) c.in-None.ensures
    ∙ ap (λ (o : Try). then_read o (λ e us. ended {A = Option Tree} (Some e) us)) (rw c.in-None-2.is at c.in_ok-expression-in-None.ensures.gives)

pub returns-in-None-expect : goal.returns-in-None-expect
returns-in-None-expect c =
    not_absent (reader c.args.depth).whole (kinds c.args.tokens.now) c.in-None.ensures
    ∙ ap (λ (o : Try). then_read o (λ e us. ended {A = Option Tree} (Some e) us)) (rw c.in-Some-2.is at c.in_ok-expression-in-None.ensures.gives)
    ∙ none_ends {A = Option Tree} (Some (view c.in-Some-2.expression.value)) (kinds c.in-Some-2.after.now) c.in-None-expect.ensures

pub returns-in-Some-expect : goal.returns-in-Some-expect
returns-in-Some-expect c =
    not_absent (reader c.args.depth).whole (kinds c.args.tokens.now) c.in-None.ensures
    ∙ ap (λ (o : Try). then_read o (λ e us. ended {A = Option Tree} (Some e) us)) (rw c.in-Some-2.is at c.in_ok-expression-in-None.ensures.gives)
    ∙ ap (λ ts. ended {A = Option Tree} (Some (view c.in-Some-2.expression.value)) ts) c.in-Some-expect.ensures
