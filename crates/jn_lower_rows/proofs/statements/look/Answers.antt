use Rattle.std.proofs.Common.{◌∙◌, ◌++◌, ap}
use Rattle.jn_places.specs.PlacedView.{placed_view}
use Rattle.jn_lower_rows.proofs.Walking.{context_rows, context_type}
use Rattle.jn_lower_rows.proofs.statements.look.Goals as goal

pub returns : goal.returns
returns c = (
  c.in_ok-base.ensures.0 ∙ context_type c.context.result c.args.place.now.program.now c.args.place.now.class c.args.names.now.scope c.args.names.now.faults.items c.context.ensures.0 c.context.ensures.1 c.context.ensures.2 c.context.ensures.3 (placed_view c.args.tree.now),
  c.in_ok-base.ensures.1 ∙ ap (λ r. c.args.rows.now ++ r) (context_rows c.context.result c.args.place.now.program.now c.args.place.now.class c.args.names.now.scope c.args.names.now.faults.items c.context.ensures.0 c.context.ensures.1 c.context.ensures.2 c.context.ensures.3 c.args.place.now.at (placed_view c.args.tree.now)),
)
