use Rattle.std.specs.Prelude.{slice_index}
use Rattle.jn_points.specs.Lookup.{body_at, method_in, points_of}
use Rattle.jn_env.specs.Keys.{own_keys}
use Rattle.jn_recheck_law.specs.RuleReads.{fields_slots, method_slots, points_slots}
use Rattle.jn_again.proofs.Clear.{clear_three}
use Rattle.jn_again.proofs.slots.off_body.Goals as goal

pub returns : goal.returns
returns c =
    let P = c.args.program.now in
    let b = c.args.body.0 in
    clear_three (slice_index c.args.bits.now) (method_slots (method_in P b)) (points_slots P (points_of (body_at P b))) (fields_slots P (own_keys P b)) c.off_own_method-method.result c.off_all_points-points.result c.in_ok-fields.fields c.all_of.result c.all_of.ensures c.off_own_method-method.ensures c.off_all_points-points.ensures c.in_ok-fields.ensures
