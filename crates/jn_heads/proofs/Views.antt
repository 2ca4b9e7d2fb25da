-- Views of lists of trees.
use Rattle.std.proofs.Common.{◌≡◌, suc, List, [], ◌∷◌, ◌++◌, length, refl, ap, append_assoc}
use Rattle.jn_trees.specs.declared.expression.Expr.{Expr}
use Rattle.jn_places.specs.PlacedView.{placed_views}
use Rattle.jn_heads.specs.Extract.{count}

pub count_views : (es : List Expr) → count (placed_views es) ≡ length es
count_views [] = refl
count_views (e ∷ es) = ap suc (count_views es)

-- one item more, and then others
pub one_more : {A : Type 0} (xs : List A) (y : A) (ys : List A) → (xs ++ y ∷ []) ++ ys ≡ xs ++ y ∷ ys
one_more xs y ys = append_assoc xs (y ∷ []) ys
