use Rattle.std.proofs.Common.{◌≡◌, ◌<◌, length, sym, ap, ◌∙◌, arith}
use Rattle.jn_points.specs.Lookup.{body_at, points_of}
use Rattle.jn_notes.proofs.Finding.{found_is, none_more, taker_is}
use Rattle.jn_notes.specs.Spoken.{taker_at}
use Rattle.jn_notes.proofs.takers.by_points.Goals as goal

pub returns-then-is_some : goal.returns-then-is_some
returns-then-is_some c =
    let P = c.args.program.now in
    let points = c.args.points.now in
    let lt : c.loop-at.at < length points = omega (arith, c.loop-at-test.true) in
    let many : length points ≡ length (points_of (body_at P c.args.body.0)) = ap length c.requires.points in
    found_is (taker_at P c.args.sig.now c.args.sought c.args.body.0 c.args.slots.now) c.loop-at.at (length (points_of (body_at P c.args.body.0))) c.by_point-found.result (omega (arith, lt, many)) c.loop-at.invariant
    (taker_is P c.args.sig.now c.args.sought c.args.body.0 c.args.slots.now points c.loop-at.at c.index-points-at.result c.by_point-found.result c.requires.points lt c.index-points-at.is c.by_point-found.ensures)
    (sym c.is_some.ensures ∙ c.if-is_some.true)

pub loop-at-preserved : goal.loop-at-preserved
loop-at-preserved c =
    let P = c.args.program.now in
    let points = c.args.points.now in
    let lt : c.loop-at.at < length points = omega (arith, c.loop-at-test.true) in
    none_more (taker_at P c.args.sig.now c.args.sought c.args.body.0 c.args.slots.now) c.loop-at.at c.by_point-found.result c.loop-at.invariant
    (taker_is P c.args.sig.now c.args.sought c.args.body.0 c.args.slots.now points c.loop-at.at c.index-points-at.result c.by_point-found.result c.requires.points lt c.index-points-at.is c.by_point-found.ensures)
    (sym c.is_some.ensures ∙ c.if-is_some.false)
