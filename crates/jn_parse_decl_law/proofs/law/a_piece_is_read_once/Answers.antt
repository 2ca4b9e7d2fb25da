use Rattle.jn_parse_decl_law.proofs.PiecesRead.{sound_at, full_at}
use Rattle.jn_parse_decl_law.proofs.law.a_piece_is_read_once.Goals as goal

pub returns : goal.returns
returns c = record { sound = sound_at; full = full_at }
