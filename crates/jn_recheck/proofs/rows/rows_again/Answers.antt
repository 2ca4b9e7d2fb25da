use Rattle.std.proofs.Common.{Option, subst, ◌∙◌}
use Rattle.jn_recheck_law.specs.Reusable.{Solved}
use Rattle.jn_recheck.specs.KeptRows.{IsReusableFrom}
use Rattle.jn_recheck.proofs.Keeping.{reusable_rows}
use Rattle.jn_recheck.proofs.rows.rows_again.Goals as goal

pub returns-in_ok-rows-in-Some : goal.returns-in_ok-rows-in-Some
returns-in_ok-rows-in-Some g c =
    let new : Solved = record { names = c.args.names.now; program = c.args.bodies.now.program.now; signature = c.args.bodies.now.sig.now } in
    let reusable = subst (λ (o : Option Solved). IsReusableFrom o new c.args.body) c.in-Some.is (c.requires.reused c.if-not-reused.false) in
    c.in_ok-rows-in-Some.ensures ∙ reusable_rows c.regular_programs_can_be_inferred.ensures c.in-Some.kept new c.args.body c.rows.result.now c.rows.ensures.regular c.requires.ready.inferable c.requires.inside reusable c.rows.ensures.is
