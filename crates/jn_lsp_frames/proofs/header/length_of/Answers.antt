use Rattle.std.proofs.Common.{subst}
use Rattle.jn_lsp_frames.specs.Lines.{Heard}
use Rattle.jn_lsp_frames.proofs.Fields.{length_says, none_says}
use Rattle.jn_lsp_frames.proofs.header.length_of.Goals as goal

pub returns-in-Length : goal.returns-in-Length
returns-in-Length c lines h = length_says lines c.in-Length.number (subst (Heard lines) c.in-Length.is h)

pub returns-in_default : goal.returns-in_default
returns-in_default c lines h = none_says lines c.args.said c.in_default.not-Length h
