use Rattle.std.proofs.Common.{◌≡◌, List, [], ◌∷◌, refl, ap, ◌∙◌, subst}
use Rattle.std.specs.Prelude.{Option}
use Rattle.jn_heap.specs.Values.{Value, At}
use Rattle.jn_lower_stmt.specs.Sources.{sources_of}
use Rattle.jn_meaning.specs.Bodies.{start_world, told}
use Rattle.jn_meaning.specs.Worlds.{Result, World}
use Rattle.jn_points.specs.declared.program.Program.{Program}
use Rattle.jn_tree_world.specs.Outcomes.{Means}
use Rattle.jn_tree_world.specs.Worlds.{world_of}
use Rattle.jn_tree_run.proofs.Telling.{ends_as, ok_then}
use Rattle.jn_tree_run.specs.Beginning.{entered_in, told_in}
use Rattle.jn_tree_run.specs.Ends.{IsTold}
use Rattle.jn_tree_run.specs.declared.run.Told.{Told}
use Rattle.jn_tree_run.proofs.run.play.Goals as goal

pub finish-requires : goal.finish-requires
finish-requires c =
    let begun : World = start_world c.args.run.now.program.now (sources_of c.args.run.now.sources.now) c.args.run.now.names.now c.args.words.now c.args.fuel in
    let here : world_of c.in_ok-w.w ≡ begun = c.in_ok-w.ensures (sources_of c.args.run.now.sources.now) c.args.run.now.names.now ∙ ap (λ (P : Program). start_world P (sources_of c.args.run.now.sources.now) c.args.run.now.names.now c.args.words.now c.args.fuel) c.program.ensures in
    let means : Means (entered_in c.args.run.now c.args.fuel 0 c.args.main.0 (At 0 ∷ []) begun) c.enter-answer.result (world_of c.enter-answer.new.w) = subst (λ (w : World). Means (entered_in c.args.run.now c.args.fuel 0 c.args.main.0 (At 0 ∷ []) w) c.enter-answer.result (world_of c.enter-answer.new.w)) here (subst (λ (vs : List Value). Means (entered_in c.args.run.now c.args.fuel 0 c.args.main.0 vs (world_of c.in_ok-w.w)) c.enter-answer.result (world_of c.enter-answer.new.w)) c.in_ok-values.ensures c.enter-answer.ensures) in
    record { meant = ((told_in c.args.run.now c.args.main.0 c.args.words.now c.args.fuel).end, ends_as (entered_in c.args.run.now c.args.fuel 0 c.args.main.0 (At 0 ∷ []) begun) c.enter-answer.result (world_of c.enter-answer.new.w) means, c.requires.meant) }

pub returns : goal.returns
returns c =
    let begun : World = start_world c.args.run.now.program.now (sources_of c.args.run.now.sources.now) c.args.run.now.names.now c.args.words.now c.args.fuel in
    let here : world_of c.in_ok-w.w ≡ begun = c.in_ok-w.ensures (sources_of c.args.run.now.sources.now) c.args.run.now.names.now ∙ ap (λ (P : Program). start_world P (sources_of c.args.run.now.sources.now) c.args.run.now.names.now c.args.words.now c.args.fuel) c.program.ensures in
    let means : Means (entered_in c.args.run.now c.args.fuel 0 c.args.main.0 (At 0 ∷ []) begun) c.enter-answer.result (world_of c.enter-answer.new.w) = subst (λ (w : World). Means (entered_in c.args.run.now c.args.fuel 0 c.args.main.0 (At 0 ∷ []) w) c.enter-answer.result (world_of c.enter-answer.new.w)) here (subst (λ (vs : List Value). Means (entered_in c.args.run.now c.args.fuel 0 c.args.main.0 vs (world_of c.in_ok-w.w)) c.enter-answer.result (world_of c.enter-answer.new.w)) c.in_ok-values.ensures c.enter-answer.ensures) in
    ok_then c.finish.result
    (λ (t : Told). (r : Result (Option Value)) (w : World) → Means r c.enter-answer.result w → w.out ≡ c.enter-answer.new.w.out.items → IsTold (told r) t.end t.text.items)
    (λ (t : Told). IsTold (told_in c.args.run.now c.args.main.0 c.args.words.now c.args.fuel) t.end t.text.items)
    (λ t h. h (entered_in c.args.run.now c.args.fuel 0 c.args.main.0 (At 0 ∷ []) begun) (world_of c.enter-answer.new.w) means refl) c.finish.ensures
