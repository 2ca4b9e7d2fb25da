use Rattle.std.proofs.Common.{map}
use Rattle.jn_trees.specs.View.{member_view, statement_view}
use Rattle.jn_trees.specs.Pieces.{kinds}
use Rattle.jn_parse_decl.specs.Seen.{member_opening}
use Rattle.jn_parse_decl.proofs.Ahead.{body_read}
use Rattle.jn_parse_decl.proofs.whole.with_body.Goals as goal

pub returns-in-Ok-Some : goal.returns-in-Ok-Some
returns-in-Ok-Some c =
    let body = rw c.in-Ok-Some.field-0-is at c.in-Ok-Some.ensures in
    body_read c.args.owner (kinds c.args.tokens.now) (member_opening c.args.head) (kinds c.args.rest.now) c.leads.result (map statement_view c.in-Ok-Some.statements.items) (member_view c.member_of.result) (kinds c.in-Ok-Some.end.now)
    c.requires c.leads.ensures body c.member_of.ensures
