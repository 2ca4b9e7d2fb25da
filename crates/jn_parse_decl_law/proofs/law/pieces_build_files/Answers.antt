use Rattle.jn_parse_decl_law.proofs.FileLaws.{found, only, none}
use Rattle.jn_parse_decl_law.proofs.law.pieces_build_files.Goals as goal

pub returns : goal.returns
returns c = record { found = found; only = only; none = none }
