use Rattle.std.proofs.Common.{sym, subst}
use Rattle.jn_command.specs.declared.report.Report.TheVariants.{Refused}
use Rattle.jn_phase_notes.specs.Phases.{PhaseNotes}
use Rattle.jn_recheck.specs.Sessions.{HaveNotes}
use Rattle.jn_report.specs.Report.{IsReport}
use Rattle.jn_lsp.proofs.Finding.{not_noted, noted, phase_noted, refused_by}
use Rattle.jn_lsp.proofs.reporting.notes_of.Goals as goal

pub notes_of_refused-requires-clause-report : goal.notes_of_refused-requires-clause-report
notes_of_refused-requires-clause-report g c κs within =
    let checked = c.args.checked.now in
    subst (λ rs. IsReport c.args.infer c.args.files.now (Refused rs)) (sym c.as_slice-in-Refused.ensures.value) (refused_by c.args.infer c.args.files.now c.args.session.now.kept checked.places.items checked.verdict c.in-Refused.field-0 c.requires.found c.in-Refused.is)

pub returns-in_ok-notes-in-Rejected : goal.returns-in_ok-notes-in-Rejected
returns-in_ok-notes-in-Rejected g c =
    let checked = c.args.checked.now in
    noted c.args.infer c.args.files.now c.args.session.now.kept checked.places.items checked.verdict _ c.in_ok-notes-in-Rejected.notes.items c.requires.found c.in-Rejected.is (subst (λ rs. HaveNotes c.args.session.now.kept rs c.in_ok-notes-in-Rejected.notes.items) c.as_slice.ensures.value c.in_ok-notes-in-Rejected.ensures)

pub returns-in-Accepted : goal.returns-in-Accepted
returns-in-Accepted g c =
    let checked = c.args.checked.now in
    not_noted c.args.infer c.args.files.now c.args.session.now.kept checked.places.items checked.verdict c.new.result.items c.requires.found c.in-Accepted.is c.new.ensures.items

pub returns-in_ok-notes-in-Refused : goal.returns-in_ok-notes-in-Refused
returns-in_ok-notes-in-Refused g c =
    let checked = c.args.checked.now in
    phase_noted c.args.infer c.args.files.now c.args.session.now.kept checked.places.items checked.verdict c.in-Refused.field-0 c.in_ok-notes-in-Refused.notes.items c.requires.found c.in-Refused.is (subst (λ rs. PhaseNotes c.args.files.now rs c.in_ok-notes-in-Refused.notes.items) c.as_slice-in-Refused.ensures.value c.in_ok-notes-in-Refused.ensures)
