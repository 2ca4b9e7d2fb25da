use Rattle.std.proofs.Common.{ap, ◌∙◌}
use Rattle.jn_command.proofs.Showing.{same_text}
use Rattle.jn_command.specs.declared.report.Report.TheVariants.{Refused}
use Rattle.jn_command.specs.Reporters.{shown_behind}
use Rattle.jn_command.specs.Shown.{shown}
use Rattle.jn_reporters.specs.Reports.{plain_shown}
use Rattle.jn_reporters.specs.Sheet.{Taken}
use Rattle.nullcheck_annotate_top.proofs.output.refused_text.Goals as goal

pub returns : goal.returns
returns c files are =
    let shower = c.in_ok-shower.shower in
    let report = Refused c.args.rows in
    let text = same_text plain_shown plain_shown c.new.result.rows c.args.reads.now files report shower.rows shower.verdict c.in_ok-shower.ensures.shown are c.requires.stand c.in_ok-shower.ensures.rows c.in_ok-shower.ensures.verdict in
    c.in_ok-from_slice.ensures.items ∙ c.bytes.ensures ∙ text ∙ ap (λ (t : Taken). shown (shown_behind t.rows plain_shown) files report) c.new.ensures
