use Rattle.std.proofs.Common.{map, refl, sym, subst}
use Rattle.std.specs.Prelude.{List, IsSome}
use Rattle.jn_places.specs.PlacedView.{placed_file}
use Rattle.jn_front.specs.declared.source.SourceFile.{SourceFile}
use Rattle.jn_front.specs.Files.{AreReads}
use Rattle.jn_phases.specs.Phases.{IsTypedOr}
use Rattle.nullcheck_annotate_top.proofs.Phasing.{of_made, typed_here}
use Rattle.jn_front.proofs.Kept.{read_from}
use Rattle.nullcheck_annotate_top.proofs.study.study_found.Goals as goal

pub study_typed-requires-clause-program : goal.study_typed-requires-clause-program
study_typed-requires-clause-program g c κs within =
    let trees = map placed_file c.args.trees.now in
    let typed = subst (λ base. (files : List SourceFile) → AreReads c.args.reads.now files → IsTypedOr c.args.infer files c.args.names.now trees c.args.rows base) c.in-Some.is c.requires.typed in
    let whole = c.requires.whole (subst IsSome (sym c.in-Some.is) refl) in
    typed_here c.args.infer c.args.terse c.args.imports c.args.reads.now c.args.names.now trees c.args.rows c.in-Some.base (read_from c.args.reads.now) typed whole

pub returns-in-Some-clause-of : goal.returns-in-Some-clause-of
returns-in-Some-clause-of g c =
    let trees = map placed_file c.args.trees.now in
    let typed = subst (λ base. (files : List SourceFile) → AreReads c.args.reads.now files → IsTypedOr c.args.infer files c.args.names.now trees c.args.rows base) c.in-Some.is c.requires.typed in
    let whole = c.requires.whole (subst IsSome (sym c.in-Some.is) refl) in
    of_made c.args.infer c.args.terse c.args.imports c.args.reads.now c.args.names.now trees c.args.rows c.in-Some.base (read_from c.args.reads.now) typed whole c.study_typed.result
