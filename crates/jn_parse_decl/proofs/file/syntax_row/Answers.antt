use Rattle.std.proofs.Common.{subst}
use Rattle.jn_trees.specs.Pieces.{kinds}
use Rattle.jn_parse_decl.specs.Ends.{NoFileAt}
use Rattle.jn_parse_decl.proofs.Turns.{plain_row}
use Rattle.jn_parse_decl.proofs.file.syntax_row.Goals as goal

pub returns-in-Refused : goal.returns-in-Refused
returns-in-Refused c =
    plain_row c.args.file c.args.end c.args.tokens.now c.in-Refused.place c.row.result c.requires.shallow (subst (NoFileAt (kinds c.args.tokens.now)) c.in-Refused.is c.requires.none) c.row.ensures
