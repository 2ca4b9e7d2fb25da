use Rattle.std.proofs.Common.{◌≡◌, drop}
use Rattle.jn_lowering.specs.FileRows as spec
use Rattle.jn_places.specs.PlacedView.{placed_declarators}
use Rattle.jn_lower_rows.proofs.files.all_start.Given as goal

abbrev pub invariant-loop-declarator : goal.invariant-loop-declarator
invariant-loop-declarator l = spec.all_start l.base (placed_declarators (drop l.declarator-index l.declarators)) ≡ spec.all_start l.base (placed_declarators l.declarators)
