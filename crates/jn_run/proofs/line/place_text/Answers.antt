use Rattle.std.proofs.Common.{◌≡◌, ◌∙◌, IfOk, ap, sym, subst, option_map, get_or}
use Rattle.std.proofs.lemmas.Option.{slice_get-get_or, slice_get-map, slice_get_past}
use Rattle.jn_front.specs.declared.source.SourceRead.{SourceRead}
use Rattle.jn_front.proofs.Kept.{read_fits}
use Rattle.jn_run.specs.Line.{place_in_file}
use Rattle.jn_run.proofs.line.place_text.Goals as goal

pub place_in_file-requires : goal.place_in_file-requires
place_in_file-requires c = record { fits = read_fits (get_or c.args.reads.now c.args.span.file.0 c.index-reads-file.result) }

pub returns-then-file-reads : goal.returns-then-file-reads
returns-then-file-reads c =
    let file = slice_get-map (λ (read : SourceRead). read.file) c.args.reads.now c.args.span.file.0 ∙ ap (option_map (λ (read : SourceRead). read.file)) (slice_get-get_or c.args.reads.now c.args.span.file.0 c.index-reads-file.result c.if-file-reads.true) in
    subst (λ file. IfOk c.place_in_file.result (λ text. text.items ≡ place_in_file file c.args.span)) (sym file) c.place_in_file.ensures

pub returns-else-file-reads : goal.returns-else-file-reads
returns-else-file-reads c =
    let none = slice_get-map (λ (read : SourceRead). read.file) c.args.reads.now c.args.span.file.0 ∙ ap (option_map (λ (read : SourceRead). read.file)) (slice_get_past c.args.reads.now c.args.span.file.0 c.if-file-reads.false) in
    subst (λ file. IfOk c.from_slice.result (λ text. text.items ≡ place_in_file file c.args.span)) (sym none) c.from_slice.ensures.items
