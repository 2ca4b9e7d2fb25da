use Rattle.jn_trees.specs.Pieces.{AtStart, pieces}
use Rattle.jn_parse_decl_law.proofs.FileLaws.{place}
use Rattle.jn_parse_decl_law.proofs.Outcomes.{one_place}
use Rattle.jn_parse_decl_law.proofs.law.files_are_read_by_pieces.Goals as goal

pub returns : goal.returns
returns c = record { place = place; one_place = one_place pieces AtStart }
