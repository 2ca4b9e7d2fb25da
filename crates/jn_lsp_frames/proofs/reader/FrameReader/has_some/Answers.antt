use Rattle.std.proofs.Common.{ℕ, arith}
use Rattle.jn_lsp_frames.specs.Reading.{IsNone}
use Rattle.jn_lsp_frames.proofs.Asked.{lacks_back, lacks_empty}
use Rattle.jn_lsp_frames.proofs.reader.FrameReader.has_some.Goals as goal

pub returns-in_err-count-clause-lacks : goal.returns-in_err-count-clause-lacks
returns-in_err-count-clause-lacks g c =
    let gave = g.S.Stream.given c.args.input.now in
    let now = g.S.Stream.given c.fill.new.input in
    let pending = c.args.self.now.pending.items in
    let fail = c.in_err-count.field-0.0 in
    lacks_back ℕ _ _ IsNone gave pending now c.from_residual.result fail c.from_residual.ensures.1 (lacks_empty ℕ ℕ _ gave pending now fail (λ lt. omega (arith, lt)) c.in_err-count.ensures.spared)
