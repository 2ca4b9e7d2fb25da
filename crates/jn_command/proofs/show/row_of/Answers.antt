use Rattle.std.proofs.Common.{ap, refl, sym, ◌∙◌, subst}
use Rattle.std.specs.Prelude.{slice_get}
use Rattle.jn_diag.specs.Sweep.{IsPosition}
use Rattle.jn_command.specs.Stands.{bytes_of}
use Rattle.jn_command.proofs.Showing.{row_there, row_nowhere, bytes_there, turned, turned_file}
use Rattle.jn_command.proofs.show.row_of.Goals as goal

pub row_in-requires : goal.row_in-requires
row_in-requires c = record { is = turned c.args.reads.now c.args.place.now c.place_in.result c.args.row.now.span.file.0 c.index-reads-file.result c.requires.is c.place_in.ensures c.if-file-reads.true c.index-reads-file.is }

pub returns-then-file-reads-clause-shown : goal.returns-then-file-reads-clause-shown
returns-then-file-reads-clause-shown c = row_there c.args.reads.now c.args.row.now.span.file.0 c.index-reads-file.result c.args.row.now c.args.noted.now c.row_in.result refl c.if-file-reads.true c.index-reads-file.is c.row_in.ensures.shown

pub returns-then-file-reads-clause-is : goal.returns-then-file-reads-clause-is
returns-then-file-reads-clause-is c =
    let file = turned_file c.args.place.now c.place_in.result c.args.row.now.span.file.0 c.place_in.ensures in
    let text = ap (λ n. bytes_of (slice_get c.args.reads.now n)) file ∙ bytes_there c.args.reads.now c.args.row.now.span.file.0 c.index-reads-file.result c.if-file-reads.true c.index-reads-file.is in
    subst (λ bytes. IsPosition bytes c.row_in.new.position) (sym text) c.row_in.ensures.is

pub returns-else-file-reads-clause-shown : goal.returns-else-file-reads-clause-shown
returns-else-file-reads-clause-shown c = row_nowhere c.args.reads.now c.args.row.now c.args.noted.now c.row_nowhere.result c.if-file-reads.false c.row_nowhere.ensures
