use Rattle.std.proofs.Common.{map, subst, ap}
use Rattle.jn_front.specs.Files.{files_of_reads}
use Rattle.jn_notes.specs.Noted.{AreNotesOf}
use Rattle.nullcheck_top.specs.Report.{placed}
use Rattle.nullcheck_top.proofs.Noting.{given_none, given_some, least_left}
use Rattle.jn_front.proofs.Kept.{read_from}
use Rattle.nullcheck_top.proofs.outputs.show_checked.Goals as goal

pub returns-in-None-clause-rows : goal.returns-in-None-clause-rows
returns-in-None-clause-rows g c = given_none (λ s. (g.P.Reporter.form s).rows) (g.P.Reporter.form c.args.reporter).rows c.args.reads.now c.args.names.now c.args.found.now c.shows_notes.result (g.P.Reporter.form c.args.reporter).notes c.shows_notes.ensures c.show.result c.requires.checked c.in-None.ensures c.show.ensures.rows

pub notes_of-requires : goal.notes_of-requires
notes_of-requires g c = least_left c.args.reads.now c.args.names.now c.args.found.now c.in-Some.left.now (read_from c.args.reads.now) c.requires.found c.in-Some.ensures.1

pub returns-in_ok-notes-in-Some-clause-rows : goal.returns-in_ok-notes-in-Some-clause-rows
returns-in_ok-notes-in-Some-clause-rows g c =
    let left = c.in-Some.left.now in
    let notes = c.in_ok-notes-in-Some.notes.items in
    let are = subst (λ rows. AreNotesOf left.0 c.args.names.now left.1 rows notes) c.rows-rows.ensures c.in_ok-notes-in-Some.ensures in
    let told = map (placed (files_of_reads c.args.reads.now)) c.deref.result.now in
    given_some (λ s. (g.P.Reporter.form s).rows) (g.P.Reporter.form c.args.reporter).rows c.args.reads.now c.args.names.now c.args.found.now c.shows_notes.result (g.P.Reporter.form c.args.reporter).notes c.shows_notes.ensures c.show_with.result left notes told c.in-Some.ensures.0 c.in-Some.ensures.1 c.requires.whole are
    (ap (map (placed (files_of_reads c.args.reads.now))) c.deref.ensures.value) c.show_with.ensures.rows
