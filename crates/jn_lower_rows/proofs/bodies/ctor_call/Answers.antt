use Rattle.std.proofs.Common.{ap}
use Rattle.jn_places.specs.PlacedView.{placed_views}
use Rattle.jn_lower_rows.proofs.Wholes.{call_adds}
use Rattle.jn_lower_rows.proofs.bodies.ctor_call.Goals as goal

pub returns : goal.returns
returns c = λ st s. call_adds c.args.whole.now.program.now c.args.whole.now.method.0 st c.args.names.now s _ _ c.place_of-place.result.at _ _ _ c.args.class.0 (placed_views c.args.arguments.now) c.args.span _ _ _ c.place_of-place.ensures.0 c.place_of-place.ensures.1 c.place_of-place.ensures.2 c.context.ensures.0 (ap (λ k. k.0) c.context.ensures.1) c.count.ensures c.in_ok-look_all.ensures c.in_ok-ctor_rows.ensures
