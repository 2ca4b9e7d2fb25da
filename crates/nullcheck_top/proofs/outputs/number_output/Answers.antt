use Rattle.std.proofs.Common.{[], ◌∷◌, map, length, refl, ap, ◌∙◌, subst, arith}
use Rattle.std.specs.Prelude.{string_bytes}
use Rattle.jn_base.specs.declared.code.Code.TheVariants.{B1}
use Rattle.jn_front.specs.Files.{most_files}
use Rattle.jn_front.specs.Limits.{row_at}
use Rattle.jn_command.specs.Reporters.{shown_behind}
use Rattle.jn_command.specs.Reports.{status_of}
use Rattle.jn_command.specs.Shown.{shown}
use Rattle.jn_command.proofs.Showing.{number_text, name_there, length_is}
use Rattle.std.proofs.lemmas.List.{length-map}
use Rattle.jn_report.specs.Report.{IsReport}
use Rattle.jn_phase_notes.proofs.Reading.{many_unparsed}
use Rattle.nullcheck_top.proofs.outputs.number_output.Goals as goal

pub returns : goal.returns
returns g c infer files named =
    let report = c.in_ok-report.report in
    let found = c.in_ok-report.ensures in
    let shower = c.in_ok-shower.shower in
    let names = map string_bytes c.args.names.now in
    let there = name_there c.args.names.now 64 c.index-names-64.result c.as_str.result.now c.requires.many c.index-names-64.is c.as_str.ensures.value in
    let long = length_is files in
    let long_names = ap length named in
    let long_words = length-map c.args.names.now string_bytes in
    let taken = (g.P.Reporter.form c.args.reporter).rows in
    let text = number_text (g.P.Reporter.form c.args.reporter).shown (g.P.Reporter.form shower).shown taken files names c.as_str.result.now report (g.P.Reporter.form shower).rows (g.P.Reporter.given shower) c.in_ok-shower.ensures.shown named there found.row c.in_ok-shower.ensures.rows c.in_ok-shower.ensures.verdict in
    record {
      row = row_at most_files B1;
      other = refl;
      is = subst (IsReport infer files) found.row (found.report infer files (omega (arith, c.requires.many, long, long_names, long_words)));
      unparsed = many_unparsed files (omega (arith, c.requires.many, long, long_names, long_words));
      ends = c.status.ensures ∙ ap status_of found.row;
      shows = c.in_ok-joined.ensures ∙ (c.bytes.ensures ∙ (text ∙ ap (shown (shown_behind taken (g.P.Reporter.form c.args.reporter).shown) files) found.row));
    }
