use Rattle.std.proofs.Common.{refl, ap, sym, subst, ◌∙◌}
use Rattle.jn_command.specs.Reporters.{shown_behind}
use Rattle.jn_command.specs.Reports.{rows_of}
use Rattle.jn_command.specs.Shown.{shown}
use Rattle.jn_command.specs.Stands.{StandIn}
use Rattle.jn_command.specs.declared.report.Report.{Report}
use Rattle.jn_command.proofs.Showing.{same_text}
use Rattle.jn_reporters.specs.Reports.{plain_shown}
use Rattle.jn_reporters.specs.Sheet.{Taken}
use Rattle.nullcheck_cert_check.proofs.outputs.rows_text.Goals as goal

pub returns : goal.returns
returns c files are =
    let reads = c.args.reads.now in
    let report = c.in_ok-report.report in
    let shower = c.in_ok-shower.shower in
    let stand = subst (λ (r : Report). StandIn reads (rows_of r)) (sym c.in_ok-report.ensures) c.requires.stand in
    let text = same_text plain_shown plain_shown c.new.result.rows reads files report shower.rows shower.verdict refl are stand c.in_ok-shower.ensures.rows c.in_ok-shower.ensures.verdict in
    c.in_ok-text.ensures.items ∙ (c.bytes.ensures ∙ (text ∙ (ap (λ (t : Taken). shown (shown_behind t.rows plain_shown) files report) c.new.ensures ∙ ap (shown plain_shown files) c.in_ok-report.ensures)))
