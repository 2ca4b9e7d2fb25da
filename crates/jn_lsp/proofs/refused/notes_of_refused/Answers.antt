use Rattle.std.proofs.Common.{◌≤◌, List, length, map, sym, ◌∙◌, subst, arith}
use Rattle.jn_command.specs.Stands.{StandIn}
use Rattle.jn_front.specs.Files.{AreReads, files_of_reads}
use Rattle.jn_phase_notes.specs.Phases.{AreNotesBy}
use Rattle.jn_places.specs.PlacedView.{placed_file}
use Rattle.jn_recheck.proofs.Reading.{reads_long}
use Rattle.jn_lsp.proofs.Refusing.{stand_anew}
use Rattle.jn_lsp.proofs.refused.notes_of_refused.Goals as goal

pub returns-then-files-gt-MOST_FILES : goal.returns-then-files-gt-MOST_FILES
returns-then-files-gt-MOST_FILES g c =
    let files = c.args.files.now in
    let many = c.if-files-gt-MOST_FILES.true in
    let same = c.files_have_one_typing.ensures.rows c.args.infer files _ c.args.rows.now (c.in_ok-too_many_files.ensures.phase c.args.infer files many) c.requires.report in
    c.notes_by_what_was_read_are_those_of_files.ensures.many (files_of_reads c.deref.result.now) files c.args.rows.now c.in_ok-notes.notes.items many (sym c.in_ok-too_many_files.ensures.row ∙ same) c.in_ok-notes.ensures

pub type_files-requires-clause-few : goal.type_files-requires-clause-few
type_files-requires-clause-few g c κs within =
    let long = reads_long c.in_ok-reads.reads.items c.args.files.now c.in_ok-reads.ensures.are in
    let few = c.if-files-gt-MOST_FILES.false in
    subst (λ rs. length rs ≤ 64) (sym c.deref-2.ensures.value) (omega (arith, long, few))

pub returns : goal.returns
returns g c =
    let files = c.args.files.now in
    let rows = c.args.rows.now in
    let typed = c.in_ok-typed.typed in
    let here = c.deref-2.ensures.value in
    let are = subst (λ rs. AreReads rs files) (sym here) c.in_ok-reads.ensures.are in
    let stand = stand_anew c.args.infer files c.deref-2.result.now rows c.requires.report (c.files_have_one_typing.ensures.rows c.args.infer files) (c.files_have_one_typing.ensures.apart c.args.infer files) typed.names (map placed_file typed.trees.items) typed.rows typed.base (c.in_ok-typed.ensures.typed files are) c.in_ok-typed.ensures.stand in
    c.notes_by_what_was_read_are_those_of_files.ensures.read c.in_ok-reads.reads.items files typed.names (map placed_file typed.trees.items) rows c.in_ok-notes-2.notes.items c.in_ok-reads.ensures.are
    (subst (λ rs. StandIn rs rows) here stand)
    (c.in_ok-typed.ensures.trees files are)
    (subst (λ rs. AreNotesBy (files_of_reads rs) typed.names (map placed_file typed.trees.items) rows c.in_ok-notes-2.notes.items) c.deref-3.ensures.value
    (subst (λ ts. AreNotesBy (files_of_reads c.deref-3.result.now) typed.names (map placed_file ts) rows c.in_ok-notes-2.notes.items) c.deref-4.ensures.value c.in_ok-notes-2.ensures))
