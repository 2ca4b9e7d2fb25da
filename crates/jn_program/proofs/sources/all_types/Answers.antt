use Rattle.std.proofs.Common.{ap, ◌∙◌, map}
use Rattle.std.specs.Prelude.{flat_map}
use Rattle.jn_places.specs.PlacedView.{placed_type}
use Rattle.jn_program_law.specs.FileSources.{type_trees}
use Rattle.jn_program.specs.Gathering.{gathered, numbered_of}
use Rattle.jn_program.proofs.Numbers.{file_more}
use Rattle.jn_program.proofs.sources.all_types.Goals as goal

pub loop-file-preserved : goal.loop-file-preserved
loop-file-preserved c =
    let n = numbered_of c.loop-file.made in
    file_more n (numbered_of c.types.new.made) _ c.args.files.now c.loop-file.file-index c.file-item.result c.loop-file-test.true c.file-item.is
    (c.in_ok-types.ensures ∙ ap (λ ts. gathered n (flat_map type_trees (map placed_type ts))) c.deref.ensures.value) c.loop-file.invariant
