use Rattle.std.proofs.Common.{◌≡◌, List, length, ap, refl, sym, subst, arith}
use Rattle.jn_front.specs.declared.source.SourceFile.{SourceFile}
use Rattle.std.specs.Prelude.{IfOk}
use Rattle.jn_command.specs.declared.show.Place.{Place}
use Rattle.jn_recheck.specs.Places.{IsPlaceIn}
use Rattle.jn_recheck.specs.Sessions.{text_of_row}
use Rattle.jn_recheck.proofs.Showing.{fits_at, moved, row_nowhere, row_there, turned}
use Rattle.jn_recheck.proofs.shown.text_of.Goals as goal

pub text_in-requires-clause-fits : goal.text_in-requires-clause-fits
text_in-requires-clause-fits c =
    let here = c.as_slice-files.result.now in
    let fit = fits_at here c.args.row.now.span.file.0 c.index-files-file.result c.as_slice-files.ensures.fit c.if-file-files.true in
    let same = ap (λ (f : SourceFile). length f.bytes) c.index-files-file.is in
    omega (arith, fit, same)

pub text_in-requires-clause-is : goal.text_in-requires-clause-is
text_in-requires-clause-is c =
    let here = c.as_slice-files.result.now in
    let is = subst (λ (fs : List SourceFile). IsPlaceIn fs c.args.place.now) (sym c.as_slice-files.ensures.are) c.requires.is in
    turned here c.args.place.now c.place_in.result c.args.row.now.span.file.0 c.index-files-file.result is c.place_in.ensures c.if-file-files.true c.index-files-file.is

pub returns-then-file-files-clause-shown : goal.returns-then-file-files-clause-shown
returns-then-file-files-clause-shown c =
    let here = c.as_slice-files.result.now in
    subst (λ (fs : List SourceFile). IfOk c.text_in.result (λ t. t ≡ text_of_row fs c.args.row.now)) c.as_slice-files.ensures.are
    (row_there here c.args.row.now.span.file.0 c.index-files-file.result c.args.row.now c.text_in.result refl c.if-file-files.true c.index-files-file.is c.text_in.ensures.shown)

pub returns-then-file-files-clause-is : goal.returns-then-file-files-clause-is
returns-then-file-files-clause-is c =
    let here = c.as_slice-files.result.now in
    let place : Place = record { file = c.place_in.result.file; position = c.text_in.new.position } in
    subst (λ (fs : List SourceFile). IsPlaceIn fs place) c.as_slice-files.ensures.are
    (moved here c.args.place.now c.place_in.result place c.args.row.now.span.file.0 c.index-files-file.result c.place_in.ensures refl c.if-file-files.true c.index-files-file.is c.text_in.ensures.is)

pub returns-else-file-files-clause-shown : goal.returns-else-file-files-clause-shown
returns-else-file-files-clause-shown c =
    subst (λ (fs : List SourceFile). IfOk c.text_nowhere.result (λ t. t ≡ text_of_row fs c.args.row.now)) c.as_slice-files.ensures.are
    (row_nowhere c.as_slice-files.result.now c.args.row.now c.text_nowhere.result c.if-file-files.false c.text_nowhere.ensures)
