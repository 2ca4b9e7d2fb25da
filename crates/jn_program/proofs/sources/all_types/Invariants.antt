use Rattle.std.proofs.Common.{◌≡◌, drop, map}
use Rattle.std.specs.Prelude.{flat_map}
use Rattle.jn_places.specs.PlacedView.{placed_file}
use Rattle.jn_program_law.specs.FileSources.{type_trees, types_of}
use Rattle.jn_program.specs.Gathering.{gathered, numbered_of}
use Rattle.jn_program.proofs.sources.all_types.Given as goal

abbrev pub invariant-loop-file : goal.invariant-loop-file
invariant-loop-file l = gathered (numbered_of l.made) (flat_map type_trees (types_of (map placed_file (drop l.file-index l.files)))) ≡ gathered (numbered_of l.fn.made) (flat_map type_trees (types_of (map placed_file l.files)))
