use Rattle.std.proofs.Common.{◌<◌, [], length, sym, ◌∙◌, arith}
use Rattle.std.specs.Prelude.{slice_index_or}
use Rattle.jn_notes.proofs.Finding.{found_is}
use Rattle.jn_notes.specs.Spoken.{taker_in}
use Rattle.jn_notes.proofs.takers.taker.Goals as goal

pub returns-then-is_some : goal.returns-then-is_some
returns-then-is_some c =
    let P = c.args.program.now in
    let many = c.len-body-end.ensures in
    let lt : c.loop-body.body < length P.bodies = omega (arith, c.loop-body-test.true, many) in
    found_is (λ b. taker_in P c.args.sig.now c.args.sought b (slice_index_or c.args.tables.now b [])) c.loop-body.body (length P.bodies) c.by_body-found.result lt c.loop-body.invariant
    c.by_body-found.ensures (sym c.is_some.ensures ∙ c.if-is_some.true)
