-- The types of calls, by the list of arguments that lies in memory.
use Rattle.std.proofs.Common.{◌≡◌, length, Box, Vec, Global, refl, sym, ap, ◌∙◌}
use Rattle.jn_base.specs.declared.place.Span.{Span}
use Rattle.jn_trees.specs.declared.expression.Identifier.{Identifier}
use Rattle.jn_trees.specs.declared.expression.Expr.{Expr}
use Rattle.jn_trees.specs.declared.expression.Expr.TheVariants.{Call, OwnCall, SuperCall}
use Rattle.jn_places.specs.PlacedView.{placed_view}
use Rattle.jn_points.specs.Members.{method_of}
use Rattle.jn_lowering.specs.Bases.{callee_type, result_type}
use Rattle.jn_lowering.specs.Scopes.{callee, super_method}
use Rattle.jn_scopes.specs.declared.context.Context.{Context}
use Rattle.jn_scopes.specs.Views.{scope_in, type_in}
use Rattle.jn_scopes.proofs.Seen.{count_views, seen_call, seen_own_call, seen_super_call}

pub typed_call : (c : Context) (e : Expr) (p : Box Expr Global) (n : Identifier) (v : Vec Expr Global) (s : Span) → e ≡ Call p n v s →
    type_in c (placed_view e) ≡ callee_type c.program.now (callee c.program.now c.class.0 (scope_in c) (placed_view p.value) (type_in c (placed_view p.value)) n.name.0 (length v.items))
typed_call c e p n v s is = ap (type_in c) (seen_call e p n v s v.items is refl) ∙ ap (λ k. callee_type c.program.now (callee c.program.now c.class.0 (scope_in c) (placed_view p.value) (type_in c (placed_view p.value)) n.name.0 k)) (sym (count_views v.items))

pub typed_own_call : (c : Context) (e : Expr) (n : Identifier) (v : Vec Expr Global) (s : Span) → e ≡ OwnCall n v s → type_in c (placed_view e) ≡ result_type c.program.now (method_of c.program.now c.class.0 n.name.0 (length v.items))
typed_own_call c e n v s is = ap (type_in c) (seen_own_call e n v s v.items is refl) ∙ ap (λ k. result_type c.program.now (method_of c.program.now c.class.0 n.name.0 k)) (sym (count_views v.items))

pub typed_super_call : (c : Context) (e : Expr) (n : Identifier) (v : Vec Expr Global) (s : Span) → e ≡ SuperCall n v s → type_in c (placed_view e) ≡ result_type c.program.now (super_method c.program.now c.class.0 n.name.0 (length v.items))
typed_super_call c e n v s is = ap (type_in c) (seen_super_call e n v s v.items is refl) ∙ ap (λ k. result_type c.program.now (super_method c.program.now c.class.0 n.name.0 k)) (sym (count_views v.items))
