use Rattle.std.proofs.Common.{◌<◌, ◌∙◌, sym, ap, subst, drop, length, ◌+◌, arith}
use Rattle.jn_places.specs.Placed.{PlacedStatements}
use Rattle.jn_places.specs.PlacedView.{placed_statements}
use Rattle.jn_lowering.specs.Bodies as spec
use Rattle.jn_lowering.specs.Statements.{Step}
use Rattle.jn_lower_stmt.specs.Stating.{StepsOn}
use Rattle.jn_lower_stmt.proofs.Constructing.{construction_other}
use Rattle.jn_lower_stmt.proofs.Stepping.{statements_left}
use Rattle.jn_lower_stmt.proofs.construction.construct.Goals as goal

pub returns-in_ok-unwritten_call-in_default-first : goal.returns-in_ok-unwritten_call-in_default-first
returns-in_ok-unwritten_call-in_default-first c =
    let some : 0 < length c.args.body.now = omega (arith, c.in-len1-up.len_at_least) in
    subst (λ (x : Step). StepsOn x c.args.e.now c.unwritten_call-in_default-first.new.e c.unwritten_call-in_default-first.new.s)
    (sym (ap (λ (xs : PlacedStatements). spec.construction c.args.c.now.program.now c.args.method.0 c.args.c.now.first c.args.s.now xs) (statements_left c.args.body.now 0 c.first-item.result some c.first-item.is)
    ∙ construction_other c.args.c.now.program.now c.args.method.0 c.args.c.now.first c.args.s.now c.first-item.result (placed_statements (drop (0 + 1) c.args.body.now)) c.in_default-first.not-ThisCall c.in_default-first.not-SuperCall))
    c.in_ok-unwritten_call-in_default-first.ensures
