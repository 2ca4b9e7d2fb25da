use Rattle.jn_trees.specs.Pieces.{kinds}
use Rattle.jn_parse_decl.proofs.Ahead.{first_piece}
use Rattle.jn_parse_decl.proofs.whole.whole_member.Goals as goal

pub whole_behind-requires : goal.whole_behind-requires
whole_behind-requires c = first_piece c.args.owner (kinds c.args.tokens.now) c.in_ok-read_member.field-0 c.in-Some.piece c.in-Some.rest c.in-Some.is c.in_ok-read_member.ensures
