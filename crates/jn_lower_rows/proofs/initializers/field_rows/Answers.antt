use Rattle.std.proofs.Common.{◌∙◌, sym}
use Rattle.jn_places.specs.PlacedView.{placed_view}
use Rattle.jn_lower_rows.proofs.Wholes.{value_adds}
use Rattle.jn_lower_rows.proofs.initializers.field_rows.Goals as goal

pub returns : goal.returns
returns c = value_adds c.args.whole.now.program.now c.args.whole.now.method.0 c.args.field.0 c.args.none.now _ _ _ (placed_view c.args.value.now) _ _ c.requires.none c.place_of.ensures.0 c.place_of.ensures.1 c.place_of.ensures.2 (sym c.is_static_field.ensures ∙ c.if-is_static_field.false) c.in_ok-look.ensures.1
