use Rattle.jn_lsp_frames.proofs.Written.{written_is_read as read}
use Rattle.jn_lsp_frames.proofs.law.written_is_read.Goals as goal

pub returns : goal.returns
returns c = read
