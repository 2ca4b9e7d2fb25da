use Rattle.jn_lsp_text.proofs.Offsets.{returns_here}
use Rattle.jn_lsp_text.proofs.position.offsets_return.Goals as goal

pub returns : goal.returns
returns c = returns_here
