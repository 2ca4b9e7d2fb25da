use Rattle.jn_lsp_frames.proofs.OneReading.{one_reading as only}
use Rattle.jn_lsp_frames.proofs.law.one_reading.Goals as goal

pub returns : goal.returns
returns c = only
