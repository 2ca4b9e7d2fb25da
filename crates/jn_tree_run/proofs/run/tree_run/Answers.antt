use Rattle.std.proofs.Common.{◌≡◌, ℕ, List, map, sym, ap, ◌∙◌, subst}
use Rattle.jn_lowering.specs.Bodies.{Source}
use Rattle.jn_lower_stmt.specs.Sources.{sources_of}
use Rattle.jn_meaning.specs.Bodies.{Stuck, tree}
use Rattle.jn_places.specs.PlacedView.{placed_file}
use Rattle.jn_points.specs.declared.program.Program.{Program}
use Rattle.jn_program_law.specs.FileSources.{sources}
use Rattle.jn_tree_run.proofs.Telling.{never_stuck}
use Rattle.jn_tree_run.specs.Beginning.{within_frames}
use Rattle.jn_tree_run.specs.Ends.{IsTold}
use Rattle.jn_tree_run.proofs.run.tree_run.Goals as goal

pub play-requires : goal.play-requires
play-requires g c =
    let same : sources_of c.deref.result.now ≡ sources (map placed_file c.args.trees.now) = ap sources_of c.deref.ensures.value ∙ c.in-Ok.ensures in
    record {
      meant = subst (λ (ss : List Source). (tree c.indexed-program.result.now ss c.args.names.now (within_frames c.args.frames) c.args.main.0 c.args.words.now c.args.fuel).end ≡ Stuck → ⊥) (sym same)
          (subst (λ (P : Program). (tree P (sources (map placed_file c.args.trees.now)) c.args.names.now (within_frames c.args.frames) c.args.main.0 c.args.words.now c.args.fuel).end ≡ Stuck → ⊥) (sym c.indexed-program.ensures.is)
          (never_stuck c.accepted_files_are_safe_by_trees.ensures.stuck (map placed_file c.args.trees.now) c.args.base.now c.requires.program c.indexed-program.ensures.regular c.indexed-program.ensures.typed c.args.main.0 c.requires.main c.args.names.now (within_frames c.args.frames) c.args.words.now c.args.fuel));
    }

pub returns-clause-answer : goal.returns-clause-answer
returns-clause-answer g c =
    let same : sources_of c.deref.result.now ≡ sources (map placed_file c.args.trees.now) = ap sources_of c.deref.ensures.value ∙ c.in-Ok.ensures in
    c.tell.ensures.answer (tree c.args.base.now (sources (map placed_file c.args.trees.now)) c.args.names.now (within_frames c.args.frames) c.args.main.0 c.args.words.now c.args.fuel)
    (subst (λ (text : List ℕ). IsTold (tree c.args.base.now (sources (map placed_file c.args.trees.now)) c.args.names.now (within_frames c.args.frames) c.args.main.0 c.args.words.now c.args.fuel) c.in-Ok-play.told.end text) (sym c.deref-in-Ok-play.ensures.value)
    (subst (λ (ss : List Source). IsTold (tree c.args.base.now ss c.args.names.now (within_frames c.args.frames) c.args.main.0 c.args.words.now c.args.fuel) c.in-Ok-play.told.end c.in-Ok-play.told.text.items) same
    (subst (λ (P : Program). IsTold (tree P (sources_of c.deref.result.now) c.args.names.now (within_frames c.args.frames) c.args.main.0 c.args.words.now c.args.fuel) c.in-Ok-play.told.end c.in-Ok-play.told.text.items) c.indexed-program.ensures.is c.in-Ok-play.ensures)))
