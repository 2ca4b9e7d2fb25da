use Rattle.std.proofs.Common.{map, refl, sym, subst}
use Rattle.std.specs.Prelude.{IsSome}
use Rattle.jn_places.specs.PlacedView.{placed_file}
use Rattle.nullcheck_top.proofs.Reporting.{IsTypedAll, checked_stand, typed_here}
use Rattle.jn_front.proofs.Kept.{read_from}
use Rattle.nullcheck_top.proofs.check.find.Goals as goal

pub checked-requires-clause-program : goal.checked-requires-clause-program
checked-requires-clause-program g c κs within =
    let trees = map placed_file c.args.trees.now in
    let typed = subst (λ base. IsTypedAll c.args.infer c.args.reads.now c.args.names.now trees c.args.rows base) c.in-Some.is c.requires.typed in
    let whole = c.requires.whole (subst IsSome (sym c.in-Some.is) refl) in
    typed_here c.args.infer c.args.reads.now c.args.names.now trees c.args.rows c.in-Some.base (read_from c.args.reads.now) typed whole

pub returns-in-Some-clause-stand : goal.returns-in-Some-clause-stand
returns-in-Some-clause-stand g c =
    let trees = map placed_file c.args.trees.now in
    let typed = subst (λ base. IsTypedAll c.args.infer c.args.reads.now c.args.names.now trees c.args.rows base) c.in-Some.is c.requires.typed in
    checked_stand c.args.infer c.args.reads.now c.args.names.now trees c.args.rows c.in-Some.base (read_from c.args.reads.now) typed c.checked.result
