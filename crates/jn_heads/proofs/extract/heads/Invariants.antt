use Rattle.std.proofs.Common.{◌≡◌, ◌++◌, map, drop}
use Rattle.jn_places.specs.PlacedView.{placed_file}
use Rattle.jn_heads.specs.Extract as spec
use Rattle.jn_heads.proofs.extract.heads.Given as goal

abbrev pub invariant-loop-file : goal.invariant-loop-file
invariant-loop-file l = l.all ++ spec.heads (map placed_file (drop l.file-index l.files)) ≡ spec.heads (map placed_file l.files)
