use Rattle.jn_lsp_text.proofs.Offsets.{stands_on_its_line}
use Rattle.jn_lsp_text.proofs.position.offsets_stand_on_their_lines.Goals as goal

pub returns : goal.returns
returns c = stands_on_its_line
