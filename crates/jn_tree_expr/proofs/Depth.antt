-- What stands in an expression is less deep than the expression.
use Rattle.std.proofs.Common.{◌≡◌, ◌<◌, ◌+◌, ◌*◌, ℕ, List, Box, Vec, Global, sym, subst, rules, arith}
use denote.Param.Weighed.{most}
use Rattle.jn_base.specs.declared.place.Span.{Span}
use Rattle.jn_trees.specs.declared.expression.Expr.{Expr}
use Rattle.jn_trees.specs.declared.expression.Expr.TheFolds.{the_lemmas}
use Rattle.jn_trees.specs.declared.expression.Expr.TheVariants.{Call}
use Rattle.jn_trees.specs.declared.expression.Identifier.{Identifier}
use Rattle.jn_trees.proofs.expression.Expr.TheLaws.{the_size}

deeper : (target : Box Expr Global) (name : Identifier) (arguments : Vec Expr Global) (span : Span) → most (λ x. the_size x) arguments.items < the_size (Call target name arguments span)
deeper target name arguments span = first_of (search (rules, the_lemmas), grind (the_lemmas, arith) steps 2000000)

-- arguments are less deep than their call
arguments_below : (tree : Expr) (target : Box Expr Global) (name : Identifier) (arguments : Vec Expr Global) (span : Span) (xs : List Expr) → tree ≡ Call target name arguments span → xs ≡ arguments.items → most (λ x. the_size x) xs < the_size tree
arguments_below tree target name arguments span xs is same =
    subst (λ (ys : List Expr). most (λ x. the_size x) ys < the_size tree) (sym same)
    (subst (λ (e : Expr). most (λ x. the_size x) arguments.items < the_size e) (sym is) (deeper target name arguments span))

-- evaluating them is a step down of the measure of expressions
pub arguments_fall : (tree : Expr) (target : Box Expr Global) (name : Identifier) (arguments : Vec Expr Global) (span : Span) (xs : List Expr) (t : ℕ) → tree ≡ Call target name arguments span → xs ≡ arguments.items → 5 * the_size tree + 0 ≡ t → 5 * most (λ x. the_size x) xs + 3 < t
arguments_fall tree target name arguments span xs t is same at =
    let below = arguments_below tree target name arguments span xs is same in
    omega (arith, below, at)
