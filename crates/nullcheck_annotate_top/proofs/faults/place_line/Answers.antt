use Rattle.std.proofs.Common.{List, ℕ, ◌≤◌, length, ap, sym, ◌∙◌, subst}
use Rattle.std.proofs.lemmas.Result.{IfOk-weaker}
use Rattle.jn_base.specs.Place.{place_in}
use Rattle.jn_front.proofs.Kept.{read_fits}
use Rattle.nullcheck_annotate_top.specs.Output.{line_in, placed_line}
use Rattle.nullcheck_annotate_top.proofs.Placing.{file_at, no_file_at}
use Rattle.nullcheck_annotate_top.proofs.faults.place_line.Goals as goal

pub place_within-place-requires : goal.place_within-place-requires
place_within-place-requires c =
    let read = c.index-reads-file.result in
    subst (λ (xs : List ℕ). length xs ≤ 1048576) (sym c.as_slice.ensures) (read_fits read)

pub returns-then-file-reads : goal.returns-then-file-reads
returns-then-file-reads c =
    let read = c.index-reads-file.result in
    let span = c.args.span in
    let code = c.args.code.now in
    let name = ap (λ n. placed_line n c.place_within-place.result code) c.as_str.ensures in
    let place = ap (λ p. placed_line read.file.name p code) (c.place_within-place.ensures ∙ ap (λ text. place_in text span) c.as_slice.ensures) in
    let file = ap (λ f. line_in f span code) (sym (file_at c.args.reads.now span.file.0 read read c.if-file-reads.true c.index-reads-file.is)) in
    IfOk-weaker c.placed_line.result _ _ (λ line h. h ∙ name ∙ place ∙ file) c.placed_line.ensures

pub returns-else-file-reads : goal.returns-else-file-reads
returns-else-file-reads c =
    let span = c.args.span in
    let file = ap (λ f. line_in f span c.args.code.now) (sym (no_file_at c.args.reads.now span.file.0 c.if-file-reads.false)) in
    IfOk-weaker c.bare_line.result _ _ (λ line h. h ∙ file) c.bare_line.ensures
