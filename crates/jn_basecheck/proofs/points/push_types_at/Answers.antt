use Rattle.std.proofs.Common.{◌≡◌, Some, subst}
use Rattle.std.proofs.lemmas.Result.{on_ok_weaker}
use Rattle.jn_points.specs.Lookup.{point_at}
use Rattle.jn_basecheck.proofs.Meant.{types_here}
use Rattle.jn_basecheck.proofs.points.push_types_at.Goals as goal

pub returns-in-Some : goal.returns-in-Some
returns-in-Some c =
    let P = c.args.program.now in
    let b = c.args.body in
    let p = c.args.at in
    let pt = c.in-Some.point.now in
    let old = c.args.rows.now.items in
    let new = c.push_types.new.rows.items in
    on_ok_weaker c.push_types.result (types_here P b p pt (subst (λ Q. point_at Q b p ≡ Some pt) c.program.ensures c.in-Some.ensures) old new) c.push_types.ensures
