use Rattle.std.proofs.Common.{List, map, refl, sym, subst}
use Rattle.jn_trees.specs.declared.statement.Stmt.{Stmt}
use Rattle.jn_trees.specs.Pieces.{kinds}
use Rattle.jn_trees.specs.View.{statement_view}
use Rattle.jn_parse_decl.specs.Ahead.{AreStatements}
use Rattle.jn_parse_decl.proofs.Ahead.{statement_more, statement_shorter, body_ends}
use Rattle.jn_parse_decl.proofs.Views.{more}
use Rattle.jn_parse_decl.proofs.whole.read_body.Goals as goal

pub statements-init : goal.statements-init
statements-init c =
    let ts = kinds c.args.tokens.now in
    subst (λ (xs : List Stmt). AreStatements c.args.owner c.args.leading ts (map statement_view xs) c.args.leading ts) (sym c.new-statements.ensures.items) (refl, refl)

pub returns-in-Some : goal.returns-in-Some
returns-in-Some c = body_ends c.args.owner c.args.leading (kinds c.args.tokens.now) (map statement_view c.statements.statements.items) c.statements.leads (kinds c.statements.left.now) (kinds c.in-Some.rest.now) c.statements.invariant c.in-Some.ensures

pub statements-smaller : goal.statements-smaller
statements-smaller c =
    let read = rw c.in-Some-2.is at c.in_ok-body_statement-in-None.ensures in
    statement_shorter c.args.owner c.statements.leads (kinds c.statements.left.now) (statement_view c.in-Some-2.statement) (kinds c.in-Some-2.rest.now) c.in-None.ensures read

pub statements-preserved : goal.statements-preserved
statements-preserved c =
    let read = rw c.in-Some-2.is at c.in_ok-body_statement-in-None.ensures in
    let before = c.statements.statements.items in
    let all = c.put.new.items.items in
    statement_more c.args.owner c.statements.leads (kinds c.statements.left.now) (statement_view c.in-Some-2.statement) (kinds c.in-Some-2.rest.now) c.in-None.ensures read
    c.args.leading (kinds c.args.tokens.now) (map statement_view before) (map statement_view all) c.statements.invariant (more statement_view before all c.in-Some-2.statement c.in_ok-put-in-Some-2.ensures)
