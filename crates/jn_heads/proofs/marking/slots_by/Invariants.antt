use Rattle.std.proofs.Common.{◌≡◌, ◌++◌, map, drop}
use Rattle.jn_places.specs.PlacedView.{placed_file}
use Rattle.jn_heads.specs.Types as types
use Rattle.jn_heads.specs.Inferred as spec
use Rattle.jn_heads.proofs.marking.slots_by.Given as goal

abbrev pub invariant-loop-file : goal.invariant-loop-file
invariant-loop-file l = l.slots ++ types.slots_of_all l.declared (spec.marks l.infer (map placed_file (drop l.file-index l.files))) ≡ types.slots_of_all l.declared (spec.marks l.infer (map placed_file l.files))
