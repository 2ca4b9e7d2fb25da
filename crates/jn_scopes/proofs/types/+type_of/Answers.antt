use Rattle.std.proofs.Common.{◌≡◌, ℕ, sym, ap, ◌∙◌}
use Rattle.jn_trees.specs.declared.expression.Expr.{Expr}
use Rattle.jn_places.specs.PlacedView.{placed_view}
use Rattle.jn_points.specs.declared.point.BaseType.{BaseType}
use Rattle.jn_lowering.specs.Bases.{callee_type}
use Rattle.jn_lowering.specs.Scopes as scopes
use Rattle.jn_scopes.specs.Views.{scope_in, type_in}
use Rattle.jn_scopes.proofs.Typing.{typed_call}
use Rattle.jn_scopes.proofs.types.+type_of.Goals as goal

pub returns-in-Call : goal.returns-in-Call
returns-in-Call t c =
    let base : c.type_of-base-in-Call.result ≡ type_in c.args.c.now (placed_view c.in-Call.target.value) = c.type_of-base-in-Call.ensures ∙ ap (λ (x : Expr). type_in c.args.c.now (placed_view x)) c.deref-in-Call.ensures in
    c.callee_type.ensures
    ∙ ap (callee_type c.args.c.now.program.now)
    (c.callee.ensures ∙ ap (λ (x : Expr). scopes.callee c.args.c.now.program.now c.args.c.now.class.0 (scope_in c.args.c.now) (placed_view x) c.type_of-base-in-Call.result c.in-Call.name.name.0 c.len.result) c.deref-in-Call-2.ensures
    ∙ ap (λ (b : BaseType). scopes.callee c.args.c.now.program.now c.args.c.now.class.0 (scope_in c.args.c.now) (placed_view c.in-Call.target.value) b c.in-Call.name.name.0 c.len.result) base
    ∙ ap (λ (k : ℕ). scopes.callee c.args.c.now.program.now c.args.c.now.class.0 (scope_in c.args.c.now) (placed_view c.in-Call.target.value) (type_in c.args.c.now (placed_view c.in-Call.target.value)) c.in-Call.name.name.0 k) (c.len.ensures ∙ c.in-Call.arguments.ok.0))
    ∙ sym (typed_call c.args.c.now c.args.tree.now c.in-Call.target c.in-Call.name c.in-Call.arguments c.in-Call.span c.in-Call.is)
