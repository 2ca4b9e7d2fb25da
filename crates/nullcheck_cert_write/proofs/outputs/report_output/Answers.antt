use Rattle.std.proofs.Common.{refl, ap, ◌∙◌}
use Rattle.jn_command.specs.Reporters.{shown_behind}
use Rattle.jn_command.specs.Shown.{shown}
use Rattle.jn_command.proofs.Showing.{same_text}
use Rattle.jn_reporters.specs.Reports.{plain_shown}
use Rattle.jn_reporters.specs.Sheet.{Taken}
use Rattle.nullcheck_cert_write.proofs.outputs.report_output.Goals as goal

pub returns-clause-bytes : goal.returns-clause-bytes
returns-clause-bytes c files are =
    let shower = c.in_ok-shower.shower in
    let text = same_text plain_shown plain_shown c.new.result.rows c.args.reads.now files c.args.report shower.rows shower.verdict refl are c.requires.stand c.in_ok-shower.ensures.rows c.in_ok-shower.ensures.verdict in
    c.of_vec.ensures ∙ (c.in_ok-text.ensures.items ∙ (c.bytes.ensures ∙ (text ∙ ap (λ (t : Taken). shown (shown_behind t.rows plain_shown) files c.args.report) c.new.ensures)))
