-- An operand after a sign: the least number after a minus, or one that is good by itself.
use Rattle.std.proofs.Common.{◌≡◌, Bool, true, false, sym, subst}
use Rattle.jn_trees.specs.declared.expression.UnaryOperator.{UnaryOperator}
use Rattle.jn_trees.specs.declared.expression.UnaryOperator.TheVariants.{Plus, Minus, Not}
use Rattle.jn_trees.specs.Trees.{Tree}
use Rattle.jn_trees.specs.WellFormed.{GoodSigned}
use Rattle.jn_trees_spelling.specs.Parts.{is_least_signed}

abbrev Chosen : Type 0 → Bool → Type 0
Chosen good b = elim b as (λ _. Type 0) [ true ↦ Unit {0} | false ↦ good ]

pub least_is_good : (o : UnaryOperator) (e : Tree) (good : Type 0) → is_least_signed o e ≡ true → GoodSigned o e good
least_is_good Plus e good h = cc
least_is_good Minus e good h = subst (Chosen good) (sym h) tt
least_is_good Not e good h = cc

pub other_is_good : (o : UnaryOperator) (e : Tree) (good : Type 0) → is_least_signed o e ≡ false → good → GoodSigned o e good
other_is_good Plus e good h g = g
other_is_good Minus e good h g = subst (Chosen good) (sym h) g
other_is_good Not e good h g = g

pub good_of_other : (o : UnaryOperator) (e : Tree) (good : Type 0) → is_least_signed o e ≡ false → GoodSigned o e good → good
good_of_other Plus e good h g = g
good_of_other Minus e good h g = subst (Chosen good) h g
good_of_other Not e good h g = g
