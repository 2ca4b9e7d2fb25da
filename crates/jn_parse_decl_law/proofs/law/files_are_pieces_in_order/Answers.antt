use Rattle.jn_parse_decl_law.proofs.TreePieces.{tree_ordered, tree_spelled, tree_built}
use Rattle.jn_parse_decl_law.proofs.Building.{closed_row}
use Rattle.jn_parse_decl_law.proofs.FileLaws.{one_tree}
use Rattle.jn_parse_decl_law.proofs.law.files_are_pieces_in_order.Goals as goal

pub returns : goal.returns
returns c = record { in_order = tree_ordered; spelled = tree_spelled; built = tree_built; closed = closed_row; one_tree = one_tree }
