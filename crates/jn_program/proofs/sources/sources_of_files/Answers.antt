use Rattle.std.proofs.Common.{ap, map}
use Rattle.std.specs.Prelude.{flat_map}
use Rattle.jn_places.specs.PlacedView.{placed_file}
use Rattle.jn_program_law.specs.FileSources.{type_trees, types_of}
use Rattle.jn_lower_stmt.specs.Sources.{sources_of}
use Rattle.jn_program.specs.Gathering.{numbered_of}
use Rattle.jn_program.proofs.Numbers.{all_sources}
use Rattle.jn_program.proofs.sources.sources_of_files.Goals as goal

pub returns : goal.returns
returns c =
    all_sources (record { sources = sources_of c.new.result.items; next = 0 }) (numbered_of c.add.new.self) (numbered_of c.all_types.new.made)
    (flat_map type_trees (types_of (map placed_file c.args.files.now)))
    (ap (λ items. record { sources = sources_of items; next = 0 }) c.new.ensures.items) c.in_ok-add.ensures c.in_ok-all_types.ensures
