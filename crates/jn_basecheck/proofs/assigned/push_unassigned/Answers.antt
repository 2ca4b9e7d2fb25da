use Rattle.std.proofs.Common.{◌≡◌, length, sym, ap, subst, arith}
use Rattle.jn_points.specs.Lookup.{points_of, body_at}
use Rattle.jn_basecheck.specs.Rows.{Adds, Among, UnassignedAt}
use Rattle.jn_basecheck.proofs.Gather.{adds_more}
use Rattle.jn_basecheck.proofs.assigned.push_unassigned.Goals as goal

pub loop-at-preserved : goal.loop-at-preserved
loop-at-preserved c = adds_more (UnassignedAt c.args.program.now c.args.body) c.args.rows.now.items c.loop-at.rows.items c.push_readings_at.new.rows.items c.loop-at.at c.loop-at.invariant c.in_ok-push_readings_at.ensures

pub returns : goal.returns
returns c =
    let P = c.args.program.now in
    let b = c.args.body in
    let listed : length c.body_of.result.now.points ≡ length (points_of (body_at P b)) = ap (λ o. length (points_of o)) (sym c.body_of.ensures) in
    let ended : c.loop-at.at ≡ length (points_of (body_at P b)) = omega arith in
    subst (λ n. Adds (Among (UnassignedAt P b) n) c.args.rows.now.items c.loop-at.rows.items) ended c.loop-at.invariant
