use Rattle.jn_parse_decl_law.proofs.FileLaws.{begun, more, shorter, stops}
use Rattle.jn_parse_decl_law.proofs.law.pieces_are_read_in_turn.Goals as goal

pub returns : goal.returns
returns c = record { begun = begun; more = more; shorter = shorter; stops = stops }
