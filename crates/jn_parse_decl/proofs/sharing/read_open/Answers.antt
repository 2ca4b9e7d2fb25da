use Rattle.jn_trees.specs.Pieces.{kinds}
use Rattle.jn_trees.specs.View.{member_views}
use Rattle.jn_parse_decl.proofs.Ahead.{members_ahead}
use Rattle.jn_parse_decl.proofs.sharing.read_open.Goals as goal

pub returns : goal.returns
returns g c =
    members_ahead c.args.owner c.args.opened.now (kinds c.args.tokens.now) (member_views c.in_ok-found.found.items) (kinds c.in_ok-found.rest.now) (c.is_fresh.ensures.members c.if-not-is_fresh.false) (c.is_fresh.ensures.body c.if-not-is_fresh.false) c.in_ok-found.ensures
