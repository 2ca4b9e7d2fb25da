use Rattle.std.proofs.Common.{◌≤◌, length, Option, sym, subst, arith}
use Rattle.jn_front.specs.Files.{AreReads}
use Rattle.jn_kept_points.specs.declared.typing.KeptTyping.{KeptTyping}
use Rattle.jn_recheck_law.specs.Reusable.{Solved}
use Rattle.jn_recheck.specs.Sessions.{IsRecheck}
use Rattle.jn_recheck.specs.Standing.{StandsIn, StandsOn}
use Rattle.jn_recheck.proofs.Reading.{reads_long}
use Rattle.jn_recheck.proofs.Standing.{stands_beside}
use Rattle.jn_recheck.proofs.recheck.recheck_files.Goals as goal

pub type_again-requires-clause-few : goal.type_again-requires-clause-few
type_again-requires-clause-few g c κs within =
    let long = reads_long c.in_ok-reads.reads.items c.args.files.now c.in_ok-reads.ensures.are in
    let few = c.if-files-gt-MOST_FILES.false in
    subst (λ rs. length rs ≤ 64) (sym c.deref.ensures.value) (omega (arith, long, few))

pub finish-requires-clause-typed : goal.finish-requires-clause-typed
finish-requires-clause-typed g c κs within =
    let are = subst (λ rs. AreReads rs c.args.files.now) (sym c.deref.ensures.value) c.in_ok-reads.ensures.are in
    c.in_ok-on.ensures.typed c.args.files.now are

pub finish-requires-clause-unchanged : goal.finish-requires-clause-unchanged
finish-requires-clause-unchanged g c κs within = subst (λ (k : Option Solved). StandsIn k c.in_ok-on.on.typed.base c.in_ok-on.on.unchanged) (sym c.in_ok-on.ensures.same) c.in_ok-on.ensures.unchanged

pub returns-clause-recheck : goal.returns-clause-recheck
returns-clause-recheck g c =
    let found = c.in_ok-found.found in
    subst (λ (k : Option Solved). IsRecheck c.args.infer k c.args.files.now found.report found.kept found.made) c.in_ok-on.ensures.same c.in_ok-found.ensures.recheck

pub returns-clause-trees : goal.returns-clause-trees
returns-clause-trees g c =
    let are = subst (λ rs. AreReads rs c.args.files.now) (sym c.deref.ensures.value) c.in_ok-reads.ensures.are in
    c.in_ok-on.ensures.kept c.args.files.now are

pub returns-clause-stands : goal.returns-clause-stands
returns-clause-stands g c =
    let again = c.in_ok-on.on.typed in
    let found = c.in_ok-found.found in
    subst (λ (t : Option KeptTyping). StandsOn c.args.infer again.kept.items found.kept t) (sym c.beside-typing.ensures)
    (stands_beside c.args.infer again.kept.items again.base found.kept again.typing c.in_ok-on.ensures.typing c.in_ok-found.ensures.program)
