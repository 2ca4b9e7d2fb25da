use Rattle.std.proofs.Common.{ℕ, Option, ap, ◌∙◌, subst}
use Rattle.jn_base.specs.declared.number.MethodNo.{MethodNo}
use Rattle.jn_points.specs.Members.{constructor_of}
use Rattle.jn_places.specs.PlacedView.{placed_views}
use Rattle.jn_lowering.specs.Bodies as spec
use Rattle.jn_lowering.specs.Calls.{Operands}
use Rattle.jn_lowering.specs.Expressions.{operands}
use Rattle.jn_lowering.specs.Locals.{State}
use Rattle.jn_lowering.specs.Scopes.{count}
use Rattle.jn_lowering.specs.Statements.{fresh}
use Rattle.jn_scopes.proofs.Seen.{count_views}
use Rattle.jn_lower_expr.specs.Lowering.{Runs}
use Rattle.jn_lower_stmt.specs.Stating.{GivesAllIn, all_valued}
use Rattle.jn_lower_stmt.proofs.Constructing.{ctor_called, found}
use Rattle.jn_lower_stmt.proofs.Stepping.{put_back}
use Rattle.jn_lower_stmt.proofs.construction.call_ctor.Goals as goal

pub returns : goal.returns
returns c =
    let vs : Operands = operands c.args.c.now.program.now (spec.class c.args.c.now.program.now c.args.method.0) c.args.c.now.first c.args.s.now.scope (fresh c.args.s.now).temporaries (placed_views c.args.arguments.now) in
    ctor_called c.args.c.now.program.now c.args.method.0 c.args.c.now.first (constructor_of c.args.c.now.program.now c.args.class.0 (count (placed_views c.args.arguments.now))) c.args.own c.args.span vs c.in_ok-args.args c.args.s.now c.evaluate_all.new.s c.end.new.self c.args.e.now c.evaluate_all.new.e c.call.new.e
    (subst (λ (n : ℕ). GivesAllIn (operands c.args.c.now.program.now n c.args.c.now.first c.args.s.now.scope (fresh c.args.s.now).temporaries (placed_views c.args.arguments.now)) (fresh c.args.s.now) c.args.e.now c.in_ok-args.args c.evaluate_all.new.e c.evaluate_all.new.s) c.requires.class
    (subst (λ (st : State). GivesAllIn (all_valued c.args.c.now st (placed_views c.args.arguments.now)) st c.args.e.now c.in_ok-args.args c.evaluate_all.new.e c.evaluate_all.new.s) c.begin-outer.ensures.begun c.in_ok-args.ensures))
    (λ runs same. subst (λ (k : Option ℕ). Runs (spec.called_ctor c.args.c.now.program.now c.args.method.0 c.args.c.now.first k c.args.own c.args.span vs) c.args.e.now c.call.new.e)
    (found (λ (x : MethodNo). x.0) c.constructor_of.result _ c.constructor_of.ensures ∙ ap (λ n. constructor_of c.args.c.now.program.now c.args.class.0 n) (count_views c.args.arguments.now))
    (c.in_ok-call.ensures c.args.c.now.program.now c.args.method.0 c.args.c.now.first vs c.args.e.now runs same))
    (put_back c.args.s.now c.evaluate_all.new.s c.end.new.self c.begin-outer.result.names c.begin-outer.result.held c.begin-outer.ensures.names c.begin-outer.ensures.held c.end.ensures)
