use Rattle.std.proofs.Common.{◌≡◌, ap, ◌∙◌, Some}
use Rattle.jn_trees.specs.Pieces.{kinds}
use Rattle.jn_trees.specs.View.{base_view}
use Rattle.jn_parse_stmt_law.specs.Parts.{use_of}
use Rattle.jn_parse_stmt.proofs.Runs.{type_use_is}
use Rattle.jn_parse_stmt.proofs.parts.read_type_use.Goals as goal

pub returns-in_ok-array-in-Some : goal.returns-in_ok-array-in-Some
returns-in_ok-array-in-Some c =
    type_use_is (kinds c.args.tokens.now) (kinds c.in-Some.after.now) (base_view c.in-Some.base) c.in-Some.ensures
    ∙ ap (λ r. Some (use_of (base_view c.in-Some.base) r)) c.in_ok-array-in-Some.ensures
