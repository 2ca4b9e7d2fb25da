use Rattle.std.proofs.Common.{List, ◌∙◌, sym, subst}
use Rattle.jn_front.specs.declared.source.SourceFile.{SourceFile}
use Rattle.jn_lsp.specs.Reported.{AreNoted, IsReported}
use Rattle.jn_lsp.proofs.Finding.{reported}
use Rattle.jn_lsp.proofs.reporting.report.Goals as goal

pub notes_of-requires-clause-found : goal.notes_of-requires-clause-found
notes_of-requires-clause-found g c κs within =
    let checked = c.in_ok-checked.checked in
    subst (λ (fs : List SourceFile). IsReported c.args.infer fs c.report.new.self.kept checked.places.items checked.verdict) (sym c.as_slice.ensures.are)
    (reported c.args.infer c.replace.new.self c.report.new.self c.args.files.now checked.rows.items checked.places.items checked.verdict checked.files checked.bodies (c.in_ok-replace.ensures.infer ∙ c.requires.chosen) c.in_ok-replace.ensures.files c.in_ok-checked.ensures.reports)

pub tale_of-requires : goal.tale_of-requires
tale_of-requires g c =
    let checked = c.in_ok-checked.checked in
    let noted = subst (λ (fs : List SourceFile). AreNoted c.args.infer fs checked.places.items checked.verdict c.in_ok-notes.notes.items) c.as_slice.ensures.are c.in_ok-notes.ensures in
    record { noted = subst (AreNoted c.args.infer c.args.files.now checked.places.items checked.verdict) (sym c.as_slice-2.ensures.value) noted }
