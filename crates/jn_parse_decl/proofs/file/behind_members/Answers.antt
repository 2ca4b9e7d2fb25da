use Rattle.jn_trees.specs.Pieces.{kinds}
use Rattle.jn_parse_decl.specs.Seen.{built_view, inside_of}
use Rattle.jn_parse_decl.proofs.Ahead.{behind_all}
use Rattle.jn_parse_decl.proofs.file.behind_members.Goals as goal

pub returns-in-InType : goal.returns-in-InType
returns-in-InType g c = behind_all c.in-InType.owner c.args.around (built_view c.args.built.now) (kinds c.args.tokens.now) (inside_of c.read_ahead.new.inside) c.read_ahead.result c.in-InType.is c.read_ahead.ensures
