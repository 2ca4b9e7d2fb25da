use Rattle.std.proofs.Common.{ap, ◌∙◌, ◌++◌}
use Rattle.jn_command.proofs.Showing.{noted_text}
use Rattle.nullcheck_top.proofs.outputs.report_output.Goals as goal

pub returns-clause-bytes : goal.returns-clause-bytes
returns-clause-bytes g c infer files are finding =
    let shower = c.in_ok-shower.shower in
    let given = c.in_ok-shower.ensures.rows infer files are finding in
    let text = noted_text (g.P.Reporter.form c.args.reporter).shown (g.P.Reporter.form shower).shown (g.P.Reporter.form c.args.reporter).rows c.args.reads.now files c.args.found.now.report given.0 (g.P.Reporter.form shower).rows (g.P.Reporter.given shower) c.in_ok-shower.ensures.shown are c.requires.stand given.2 c.in_ok-shower.ensures.verdict in
    (given.0, given.1, c.in_ok-joined.ensures ∙ ap (λ xs. c.args.front.now ++ xs) (c.bytes.ensures ∙ text))
