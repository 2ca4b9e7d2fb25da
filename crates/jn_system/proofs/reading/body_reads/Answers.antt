use Rattle.std.proofs.Common.{◌||◌, ◌∙◌, sym}
use Rattle.jn_points.specs.Lookup.{body_at, method_in, points_of}
use Rattle.jn_inference_law.specs.Reading.{given_reads, points_reads}
use Rattle.jn_system.proofs.ReadSteps.{has_word-append}
use Rattle.jn_system.proofs.reading.body_reads.Goals as goal

pub returns : goal.returns
returns c =
    let P = c.args.program.now in
    let b = c.args.body.0 in
    c.either.ensures
    ∙ (λ i. c.method_reads-given.ensures i || c.all_points_read-points.ensures i)
    ∙ sym (has_word-append c.args.word (given_reads (method_in P b)) (points_reads P (points_of (body_at P b))))
