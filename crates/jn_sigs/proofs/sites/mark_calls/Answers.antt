use Rattle.std.proofs.Common.{◌≡◌, ◌<◌, ◌||◌, ◌∙◌, false, not, eqb, get_or, length, ap, arith}
use Rattle.jn_points.specs.Lookup.{class_of, private_of, method_at}
use Rattle.jn_sigs.proofs.Calling.{call_more}
use Rattle.jn_sigs.proofs.sites.mark_calls.Goals as goal

pub loop-point-preserved : goal.loop-point-preserved
loop-point-preserved c m lt =
    let P = c.args.program.now in
    let i = c.loop-point.point-index in
    let pts = c.args.body.now.points in
    let x = c.point-item.result in
    let short : i < length pts = omega (arith, c.loop-point-test.true, ap length c.as_slice-point-items.ensures) in
    let is : x ≡ get_or pts i x = c.point-item.is ∙ ap (λ list. get_or list i x) c.as_slice-point-items.ensures in
    let below : m < length c.loop-point.flags = omega (arith, lt, c.mark_call.auto.flags) in
    call_more m i pts x (get_or c.loop-point.flags m false) (get_or c.mark_call.new.flags m false) (not (private_of (method_at P m)) || eqb c.class_of-class.result.0 (class_of (method_at P m))) _ short is (c.mark_call.ensures m below) (c.loop-point.invariant m below)
