use Rattle.std.proofs.Common.{◌≡◌, ◌↔◌, ◌≤◌, IsTrue, rules, sym, ap, ◌∙◌, subst, arith}
use Rattle.jn_trees.specs.Trees.{Tree, UnaryTree}
use Rattle.jn_trees.specs.WellFormed.{Good, rank, unary_rank}
use Rattle.jn_trees.specs.View.{view}
use Rattle.jn_trees.proofs.Seen.{seen_call, seen_own_call, seen_super_call, seen_new, seen_array_of}
use Rattle.jn_trees_spelling.proofs.Signed.{least_is_good, good_of_other}
use Rattle.std.proofs.lemmas.Grind.{common_steps}
use Rattle.jn_trees.specs.declared.expression.Expr.{Expr}
use Rattle.jn_trees_spelling.proofs.good.+good.Goals as goal
use Rattle.jn_trees_spelling.proofs.good.+good.Goals.{good-then-good-2, good-else-good-2}

pub good-returns-in-OwnCall : goal.good-returns-in-OwnCall
good-returns-in-OwnCall t c =
    let P : Tree → Type 0 = λ v. IsTrue c.all_good-in-OwnCall.result ↔ Good v in
    subst P (sym (seen_own_call _ c.in-OwnCall.name c.in-OwnCall.arguments c.in-OwnCall.span c.deref-in-OwnCall.result.now c.in-OwnCall.is c.deref-in-OwnCall.ensures.value)) c.all_good-in-OwnCall.ensures

pub good-returns-in-SuperCall : goal.good-returns-in-SuperCall
good-returns-in-SuperCall t c =
    let P : Tree → Type 0 = λ v. IsTrue c.all_good-in-SuperCall.result ↔ Good v in
    subst P (sym (seen_super_call _ c.in-SuperCall.name c.in-SuperCall.arguments c.in-SuperCall.span c.deref-in-SuperCall.result.now c.in-SuperCall.is c.deref-in-SuperCall.ensures.value)) c.all_good-in-SuperCall.ensures

pub good-returns-in-New : goal.good-returns-in-New
good-returns-in-New t c =
    let P : Tree → Type 0 = λ v. IsTrue c.all_good-in-New.result ↔ Good v in
    subst P (sym (seen_new _ c.in-New.class c.in-New.arguments c.in-New.span c.deref-in-New.result.now c.in-New.is c.deref-in-New.ensures.value)) c.all_good-in-New.ensures

pub good-returns-in-ArrayOf : goal.good-returns-in-ArrayOf
good-returns-in-ArrayOf t c =
    let P : Tree → Type 0 = λ v. IsTrue c.all_good-in-ArrayOf.result ↔ Good v in
    subst P (sym (seen_array_of _ c.in-ArrayOf.element c.in-ArrayOf.elements c.in-ArrayOf.span c.deref-in-ArrayOf.result.now c.in-ArrayOf.is c.deref-in-ArrayOf.ensures.value)) c.all_good-in-ArrayOf.ensures

pub good-returns-then-rank-le-PRIMARY_RANK : goal.good-returns-then-rank-le-PRIMARY_RANK
good-returns-then-rank-le-PRIMARY_RANK t c =
    let P : Tree → Type 0 = λ v. IsTrue c.all_good.result ↔ Good v in
    subst P (sym (seen_call _ c.in-Call.target c.in-Call.name c.in-Call.arguments c.in-Call.span c.deref-then-rank-le-PRIMARY_RANK.result.now c.in-Call.is c.deref-then-rank-le-PRIMARY_RANK.ensures.value))
    (elim c.if-good-2.branch [
      | good-then-good-2 w ↦ first_of (search rules, grind (arith, common_steps))
      | good-else-good-2 w ↦ absurd (cc)
    ])

pub good-returns-then-is_least : goal.good-returns-then-is_least
good-returns-then-is_least t c =
    let P : Tree → Type 0 = λ v. IsTrue c.is_least.result ↔ Good v in
    let operand = view c.deref-in-Unary.result.now in
    subst P (sym (ap view c.in-Unary.is ∙ ap (λ e. UnaryTree c.in-Unary.operator (view e)) (sym c.deref-in-Unary.ensures)))
    ((λ _. least_is_good c.in-Unary.operator operand (Good operand × (rank operand ≤ unary_rank)) (sym c.is_least.ensures ∙ c.if-is_least.true)), (λ _. c.if-is_least.true))

pub good-returns-else-good-6 : goal.good-returns-else-good-6
good-returns-else-good-6 t c =
    let P : Tree → Type 0 = λ v. IsTrue c.good-else-is_least.result ↔ Good v in
    let operand = view c.deref-in-Unary.result.now in
    let same : c.deref-in-Unary.result.now ≡ c.deref-else-is_least.result.now = c.deref-in-Unary.ensures ∙ sym c.deref-else-is_least.ensures in
    let Q : Expr → Type 0 = λ e. Good (view e) in
    subst P (sym (ap view c.in-Unary.is ∙ ap (λ e. UnaryTree c.in-Unary.operator (view e)) (sym c.deref-in-Unary.ensures)))
    ((λ h. absurd (cc)), (λ g. c.good-else-is_least.ensures.1 (subst Q same (good_of_other c.in-Unary.operator operand (Good operand × (rank operand ≤ unary_rank)) (sym c.is_least.ensures ∙ c.if-is_least.false) g).0)))
