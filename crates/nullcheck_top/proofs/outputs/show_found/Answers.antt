use Rattle.std.proofs.Common.{map, ap, ◌∙◌}
use Rattle.jn_front.specs.Files.{files_of_reads}
use Rattle.nullcheck_top.specs.Report.{placed}
use Rattle.jn_places.specs.PlacedView.{placed_file}
use Rattle.nullcheck_top.proofs.Noting.{given_phase}
use Rattle.nullcheck_top.proofs.outputs.show_found.Goals as goal

pub show_checked-requires-clause-checked : goal.show_checked-requires-clause-checked
show_checked-requires-clause-checked g c on rows is = c.in-None.ensures (c.shows_notes.ensures ∙ on) rows is

pub returns-in_ok-notes-in-Some-clause-rows : goal.returns-in_ok-notes-in-Some-clause-rows
returns-in_ok-notes-in-Some-clause-rows g c =
    let reads = c.args.reads.now in
    let notes = c.in_ok-notes-in-Some.notes.items in
    given_phase (λ s. (g.P.Reporter.form s).rows) (g.P.Reporter.form c.args.reporter).rows reads c.args.names.now c.args.found.now c.shows_notes.result (g.P.Reporter.form c.args.reporter).notes c.shows_notes.ensures c.show_with.result (map placed_file c.args.trees.now) c.in-Some.rows.now notes (map (placed (files_of_reads reads)) c.deref.result.now) c.in-Some.ensures.0 c.in-Some.ensures.1 c.requires.stand c.requires.trees c.in_ok-notes-in-Some.ensures
    (ap (map (placed (files_of_reads reads))) c.deref.ensures.value) c.show_with.ensures.rows
