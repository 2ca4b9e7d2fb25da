use Rattle.std.proofs.Common.{◌∙◌, ◌++◌, ap}
use Rattle.jn_places.specs.PlacedView.{placed_views}
use Rattle.jn_lower_rows.proofs.Walking.{context_all}
use Rattle.jn_lower_rows.proofs.statements.look_all.Goals as goal

pub returns : goal.returns
returns c = c.in_ok-all.ensures ∙ ap (λ r. c.args.rows.now ++ r) (context_all c.context.result c.args.place.now.program.now c.args.place.now.class c.args.names.now.scope c.args.names.now.faults.items c.context.ensures.0 c.context.ensures.1 c.context.ensures.2 c.context.ensures.3 c.args.place.now.at (placed_views c.args.trees.now))
