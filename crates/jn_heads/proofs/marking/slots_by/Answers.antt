use Rattle.std.proofs.Common.{◌++◌, ap, ◌∙◌, map}
use Rattle.jn_trees.specs.declared.declaration.FileTree.{FileTree}
use Rattle.jn_places.specs.PlacedView.{placed_type}
use Rattle.jn_heads.specs.Inferred as spec
use Rattle.jn_heads.specs.Types as types
use Rattle.jn_heads.proofs.SlotLoops.{file_more}
use Rattle.jn_heads.proofs.marking.slots_by.Goals as goal

pub loop-file-preserved : goal.loop-file-preserved
loop-file-preserved c =
    let hs = c.args.declared.now in
    let slots = c.loop-file.slots in
    file_more hs c.args.infer c.args.files.now c.loop-file.file-index c.file-item.result slots c.push_types.new.slots _ c.loop-file-test.true
    (c.in_ok-push_types.ensures
    ∙ ap (λ ts. slots ++ types.slots_of_all hs (map (spec.class_marks c.args.infer) (map placed_type ts))) c.deref.ensures.value
    ∙ ap (λ (f : FileTree). slots ++ types.slots_of_all hs (map (spec.class_marks c.args.infer) (map placed_type f.types.items))) c.file-item.is) c.loop-file.invariant
