use Rattle.std.proofs.Common.{◌≡◌, ◌∙◌, IfOk, ap, sym, subst, option_map, get_or}
use Rattle.std.proofs.lemmas.Option.{slice_get-get_or, slice_get-map, slice_get_past}
use Rattle.jn_front.specs.declared.source.SourceRead.{SourceRead}
use Rattle.jn_front.proofs.Kept.{read_fits}
use Rattle.jn_reporters.specs.Reports.{plain_line}
use Rattle.jn_command.specs.Shown.{row_of_file}
use Rattle.nullcheck_cert_check.proofs.lines.row_line.Goals as goal

pub row_in_file-requires : goal.row_in_file-requires
row_in_file-requires c = record { fits = read_fits (get_or c.args.reads.now c.args.row.span.file.0 c.index-reads-file.result) }

pub returns-then-file-reads : goal.returns-then-file-reads
returns-then-file-reads c =
    let file = slice_get-map (λ (read : SourceRead). read.file) c.args.reads.now c.args.row.span.file.0 ∙ ap (option_map (λ (read : SourceRead). read.file)) (slice_get-get_or c.args.reads.now c.args.row.span.file.0 c.index-reads-file.result c.if-file-reads.true) in
    subst (λ file. IfOk c.row_in_file.result (λ line. line.items ≡ plain_line (row_of_file file c.args.row).text)) (sym file) c.row_in_file.ensures

pub returns-else-file-reads : goal.returns-else-file-reads
returns-else-file-reads c =
    let none = slice_get-map (λ (read : SourceRead). read.file) c.args.reads.now c.args.row.span.file.0 ∙ ap (option_map (λ (read : SourceRead). read.file)) (slice_get_past c.args.reads.now c.args.row.span.file.0 c.if-file-reads.false) in
    subst (λ file. IfOk c.row_of_none.result (λ line. line.items ≡ plain_line (row_of_file file c.args.row).text)) (sym none) c.row_of_none.ensures
