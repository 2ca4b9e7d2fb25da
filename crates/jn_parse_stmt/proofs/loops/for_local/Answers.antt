use Rattle.std.proofs.Common.{◌≡◌, ap, ◌∙◌}
use Rattle.jn_trees.specs.Pieces.{kinds}
use Rattle.jn_trees.specs.Trees.{InitTree, DeclarationInit, LocalTree}
use Rattle.jn_trees.specs.View.{local_view}
use Rattle.jn_parse_expr_law.specs.Reader.{reader}
use Rattle.jn_parse_stmt_law.specs.Parts.{Behind, Read, then_read}
use Rattle.jn_parse_stmt_law.specs.StatementReader.{for_local, for_rest}
use Rattle.jn_parse_stmt.proofs.Items.{none_ends}
use Rattle.jn_parse_stmt.proofs.loops.for_local.Goals as goal

pub returns-in-None : goal.returns-in-None
returns-in-None c = λ one.
    ap (λ (l : Behind LocalTree). for_local (reader c.args.depth).whole one l) c.in_ok-declaration.ensures
    ∙ ap (λ (o : Read InitTree). then_read o (for_rest (reader c.args.depth).whole one)) (none_ends {A = InitTree} (DeclarationInit (local_view c.in_ok-declaration.declaration)) (kinds c.in_ok-declaration.after.now) c.in-None.ensures)
