use Rattle.jn_parse_decl_law.proofs.Outcomes.{one_file, one_row, not_both}
use Rattle.jn_parse_decl_law.proofs.law.files_have_one_outcome.Goals as goal

pub returns : goal.returns
returns c = record { one_file = one_file; one_row = one_row; not_both = not_both }
