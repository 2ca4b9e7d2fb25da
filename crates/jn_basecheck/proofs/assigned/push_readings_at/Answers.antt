use Rattle.std.proofs.Common.{◌≡◌, ◌++◌, subst}
use Rattle.std.proofs.lemmas.Option.{slice_get_within}
use Rattle.std.proofs.lemmas.Result.{on_ok_weaker}
use Rattle.jn_dataflow.specs.Problem.{slot_at}
use Rattle.jn_points.specs.Lookup.{points_of, body_at}
use Rattle.jn_basecheck.specs.Rows.{readings}
use Rattle.jn_basecheck.proofs.Meant.{readings_here}
use Rattle.jn_basecheck.proofs.assigned.push_readings_at.Goals as goal

pub returns-in-Some : goal.returns-in-Some
returns-in-Some c =
    let P = c.args.program.now in
    let b = c.args.body in
    let p = c.args.at in
    let t = c.args.unwritten.now in
    let pt = c.in-Some.point.now in
    let old = c.args.rows.now.items in
    let new = c.push_readings.new.rows.items in
    let within = slice_get_within (points_of (body_at P b)) p pt c.in-Some.ensures in
    on_ok_weaker c.push_readings.result
    (λ is. readings_here P b p t c.requires within pt c.in-Some.ensures old new (subst (λ xs. new ≡ old ++ readings P b (slot_at t p) xs) c.operands_of-operands.ensures is)) c.push_readings.ensures
