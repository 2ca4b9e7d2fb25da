use Rattle.std.proofs.Common.{◌∙◌, ap}
use Rattle.jn_places.specs.PlacedView.{placed_members, placed_parameters, placed_statements}
use Rattle.jn_lowering.specs.Bodies.{at_entry}
use Rattle.jn_lower_rows.specs.Views.{setting_of}
use Rattle.jn_lower_rows.proofs.Wholes.{whole_adds}
use Rattle.jn_lower_rows.proofs.bodies.body_rows.Goals as goal

pub returns : goal.returns
returns c = whole_adds c.args.program.now c.args.method.0 (placed_parameters c.args.parameters.now) (placed_statements c.args.body.now) (placed_members c.args.members.now) c.in_ok-names.names c.statements.new.names
    c.place_of-place.result.program.now c.place_of-place.result.class.0 (setting_of c.place_of-place.result.at) _ _ _ c.place_of-place.ensures.0 c.place_of-place.ensures.1 (ap setting_of c.place_of-place.ensures.2 ∙ c.in_body.ensures)
    c.in_ok-names.ensures.0 (c.in_ok-constructed.ensures (at_entry c.args.program.now c.args.method.0 (placed_parameters c.args.parameters.now)) c.in_ok-names.ensures.0) c.in_ok-statements.ensures
