use Rattle.std.proofs.Common.{◌≡◌, Some, length, sym, ap, subst, arith}
use Rattle.jn_points.specs.Lookup.{points_of, body_at}
use Rattle.jn_basecheck.specs.Rows.{Adds, Among, TypeRowAt}
use Rattle.jn_basecheck.proofs.Gather.{adds_more}
use Rattle.jn_basecheck.proofs.points.push_body_types.Goals as goal

pub loop-at-preserved : goal.loop-at-preserved
loop-at-preserved c = adds_more (TypeRowAt c.args.program.now c.args.body) c.args.rows.now.items c.loop-at.rows.items c.push_types_at.new.rows.items c.loop-at.at c.loop-at.invariant c.in_ok-push_types_at.ensures

pub returns : goal.returns
returns c =
    let P = c.args.program.now in
    let b = c.args.body in
    let listed : length c.body_of.result.now.points ≡ length (points_of (body_at P b)) = ap (λ o. length (points_of o)) (sym (subst (λ Q. body_at Q b ≡ Some c.body_of.result.now) c.program.ensures c.body_of.ensures)) in
    let ended : c.loop-at.at ≡ length (points_of (body_at P b)) = omega arith in
    subst (λ n. Adds (Among (TypeRowAt c.args.program.now c.args.body) n) c.args.rows.now.items c.loop-at.rows.items) ended c.loop-at.invariant
