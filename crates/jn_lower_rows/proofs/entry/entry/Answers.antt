use Rattle.std.proofs.Common.{◌∙◌, ap, length, sym, subst}
use Rattle.jn_points.specs.Lookup.{method_at, params_of}
use Rattle.jn_places.specs.PlacedView.{placed_parameters}
use Rattle.jn_lowering.specs.Bodies.{first_parameter}
use Rattle.jn_scopes.specs.Views.{scope_of}
use Rattle.jn_lower_rows.specs.Standing.{AllWithin}
use Rattle.jn_lower_rows.proofs.Wholes.{plain_from}
use Rattle.jn_lower_rows.proofs.entry.entry.Goals as goal

pub returns : goal.returns
returns c = (
  plain_from (first_parameter c.args.whole.now.program.now c.args.whole.now.method.0) 0 (placed_parameters c.args.parameters.now) (params_of (method_at c.args.whole.now.program.now c.args.whole.now.method.0))
      ∙ sym c.in_ok-entry_scope.ensures.0
      ∙ sym (ap (λ rows. scope_of rows c.in_ok-entry_scope.field-0) c.new.ensures.items),
  subst (λ rows. AllWithin (length rows) c.in_ok-entry_scope.field-0) (sym c.new.ensures.items) c.in_ok-entry_scope.ensures.1,
)
