use Rattle.std.proofs.Common.{◌≡◌, ◌++◌, drop, map}
use Rattle.jn_places.specs.PlacedView.{placed_import}
use Rattle.jn_refused_notes.specs.Refused.{import_refusal}
use Rattle.jn_refused_notes.proofs.outside.imports.Given as goal

abbrev pub invariant-loop-tree : goal.invariant-loop-tree
invariant-loop-tree l = l.found ++ map import_refusal (map placed_import (drop l.tree-index l.trees)) ≡ l.fn.found ++ map import_refusal (map placed_import l.trees)
