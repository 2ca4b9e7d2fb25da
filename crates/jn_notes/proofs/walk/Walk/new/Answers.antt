use Rattle.std.proofs.Common.{◌≡◌, ◌∙◌}
use Rattle.jn_voided.specs.Kept.{scene_by}
use Rattle.jn_notes.specs.Walked.{ground_in, scene_in}
use Rattle.jn_notes.proofs.Saying.{none_said}
use Rattle.jn_notes.proofs.walk.Walk.new.Goals as goal

pub invariant_of-result : goal.invariant_of-result
invariant_of-result c =
    let v = c.args.of.now in
    let b = c.basis-basis.result in
    let e = c.basis-basis.ensures in
    let same : scene_by b.program.now b.sig.now b.tables.now ≡ scene_in v = λ i. scene_by (e.program i) (e.sig i) (e.tables i) in
    record {
      rests_are = c.new-chains.ensures (ground_in v);
      said = none_said (ground_in v) c.new-said.result c.new-said.ensures;
      voids = c.new-voids.ensures ∙ same;
    }
