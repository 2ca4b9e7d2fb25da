use Rattle.jn_lsp_frames.proofs.Fields.{heard_broken, heard_other, heard_next}
use Rattle.jn_lsp_frames.proofs.header.with_line.Goals as goal

pub returns-in-Broken : goal.returns-in-Broken
returns-in-Broken c lines h = heard_broken lines c.args.line.now c.in-Broken.ensures

pub returns-in-Other : goal.returns-in-Other
returns-in-Other c lines h = heard_other lines c.args.line.now c.args.said c.in-Other.ensures h

pub returns-in_default : goal.returns-in_default
returns-in_default c lines h = heard_next lines c.args.line.now c.args.said c.in-Length.number c.in-Length.ensures c.in_default.not-Nothing h
