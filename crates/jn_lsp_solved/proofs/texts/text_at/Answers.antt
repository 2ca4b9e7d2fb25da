use Rattle.jn_lsp_solved.proofs.Fitting.{small_at}
use Rattle.jn_lsp_solved.proofs.texts.text_at.Goals as goal

pub of-requires-in-Some : goal.of-requires-in-Some
of-requires-in-Some c =
    let there = c.in-Some.ensures.lookup in
    small_at c.as_slice.result.now c.args.file c.in-Some.file.now c.as_slice-in-Some.result.now c.as_slice.ensures.fit there.3.0 there.1 c.as_slice-in-Some.ensures
