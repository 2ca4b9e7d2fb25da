use Rattle.std.proofs.Common.{◌≡◌, ◌∙◌, length, map, ap, sym, arith}
use Rattle.std.specs.Prelude.{flat_map}
use Rattle.std.proofs.lemmas.List.{length-map}
use Rattle.jn_trees.specs.declared.declaration.FileTree.{FileTree}
use Rattle.jn_places.specs.PlacedView.{placed_file, placed_type}
use Rattle.jn_program_law.specs.FileSources.{type_trees}
use Rattle.jn_program.specs.Gathering.{gathered, numbered_of}
use Rattle.jn_program.proofs.Starting.{gathers_more, starts_more}
use Rattle.jn_program.proofs.sources.starts_of_files.Goals as goal

pub loop-at-preserved : goal.loop-at-preserved
loop-at-preserved c =
    let files = c.args.files.now in
    let inv = c.loop-at.invariant in
    let made = c.loop-at.made in
    let more = starts_more (map placed_file files) c.loop-at.at made c.loop-at.starts.items c.put.new.items.items c.start_of.result inv.0 inv.1 inv.2 c.start_of.ensures c.in_ok-put.ensures in
    let next = c.in_ok-types.ensures ∙ ap (λ ts. gathered (numbered_of made) (flat_map type_trees (map placed_type ts))) (c.deref.ensures.value ∙ ap (λ (f : FileTree). f.types.items) (sym c.index-files-at.is)) in
    (gathers_more files c.loop-at.at c.index-files-at.result made c.types.new.made c.loop-at-test.true c.index-files-at.is inv.0 next, more.0, more.1)

pub returns : goal.returns
returns c =
    let files = c.args.files.now in
    let inv = c.loop-at.invariant in
    let ended : c.loop-at.at ≡ length files = omega (arith, c.loop-at.auto.at-end, c.loop-at-test.false) in
    let more = starts_more (map placed_file files) c.loop-at.at c.loop-at.made c.loop-at.starts.items c.put-2.new.items.items c.start_of-2.result inv.0 inv.1 inv.2 c.start_of-2.ensures c.in_ok-put-2.ensures in
    (more.0 ∙ omega (arith, ended, length-map files placed_file), more.1)
