use Rattle.jn_trees.specs.Pieces.{kinds}
use Rattle.jn_parse_decl.proofs.Depth.{fields_read}
use Rattle.jn_parse_decl.proofs.nested.declarators_within.Goals as goal

pub returns : goal.returns
returns c = fields_read c.read_declarators.result c.args.depth (kinds c.args.tokens.now) c.requires c.read_declarators.ensures
