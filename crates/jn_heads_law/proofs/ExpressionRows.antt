-- Rows of expressions are the same of a bare program, places included.
use Rattle.std.proofs.Common.{◌≡◌, ℕ, not, cond, ◌||◌, ◌++◌, refl}
use Rattle.jn_base.specs.declared.code.Code.TheVariants.{J1, J5}
use Rattle.jn_points.specs.declared.program.Program.{Program}
use Rattle.jn_known.specs.Known.{is_object_member}
use Rattle.jn_places.specs.Placed.{PlacedTree, PlacedTrees, NoPlacedTrees, MorePlacedTrees, PlacedLiteral, PlacedName, PlacedThis, PlacedParen, PlacedField, PlacedCall, PlacedOwnCall, PlacedSuperCall, PlacedIndex, PlacedNew, PlacedNewArray, PlacedArrayOf, PlacedPostfix, PlacedPrefix, PlacedUnary, PlacedCast, PlacedBinary, PlacedInstanceOf, PlacedConditional, PlacedAssign}
use Rattle.jn_trees.specs.declared.expression.Base.TheVariants.{Class as ClassUse}
use Rattle.jn_lowering.specs.Scopes.{Scope, count}
use Rattle.jn_lowering.specs.Expressions.{is_null}
use Rattle.jn_lowering.specs.Annotations.{row, unless, when}
use Rattle.jn_lowering.specs.ExpressionRows.{Setting, assigned_rows, equality_rows, index_rows, inner_span, is_this, rows_of, rows_of_all}
use Rattle.jn_places_law.specs.Bare.{bare}
use Rattle.jn_places_law.proofs.Lookups.{method_of_is}
use Rattle.jn_heads_law.proofs.Meanings.{access_is, base_rows_is, before_is, callee_is, meaning_is, type_is}
use Rattle.jn_heads_law.proofs.RowForms.{access_rows_is, array_rows_is, assigned_access_is, assigned_name_is, dotted_is, name_rows_is, new_rows_is, own_method_is, super_rows_is}
use Rattle.jn_places_law.proofs.Meanings.{super_method_is}

module _ (P : Program) (c : ℕ) (at : Setting) where
  mutual
    pub rows_is : (s : Scope) (e : PlacedTree) → rows_of (bare P) c at s e ≡ rows_of P c at s e
    rows_is s (PlacedLiteral l span) = refl
    rows_is s (PlacedName n) = λ i. name_rows_is P c at (meaning_is P c s n.name.0 i) n.span i
    rows_is s (PlacedThis span) = refl
    rows_is s (PlacedParen e span) = rows_is s e
    rows_is s (PlacedField e n span) = λ i. access_rows_is P c (before_is P c s e i) (type_is P c s e i) (rows_is s e i) n.name.0 n.span i
    rows_is s (PlacedCall e n es span) = λ i. dotted_is P c (callee_is P c s e (type_is P c s e i) n.name.0 (count es) i) (before_is P c s e i) (type_is P c s e i) (rows_is s e i) (all_is s es i) n.name.0 (count es) n.span i
    rows_is s (PlacedOwnCall n es span) = λ i. all_is s es i ++ cond (is_object_member n.name.0) (row J5 n.span) (own_method_is P at (method_of_is P c n.name.0 (count es) i) n.span i)
    rows_is s (PlacedSuperCall n es span) = λ i. when (not at.this_stands) (row J1 span) ++ (all_is s es i ++ cond (is_object_member n.name.0) (row J5 n.span) (when at.this_stands (super_rows_is P c (super_method_is P c n.name.0 (count es) i) n.span i)))
    rows_is s (PlacedIndex a x span) = λ i. index_rows P c at (type_is P c s a i) (rows_is s a i) (rows_is s x i) (inner_span a)
    rows_is s (PlacedNew n es span) = λ i. all_is s es i ++ new_rows_is P c n.name.0 (count es) n.span i
    rows_is s (PlacedNewArray annotations base size span) = λ i. array_rows_is P base annotations i ++ rows_is s size i
    rows_is s (PlacedArrayOf annotations base es span) = λ i. array_rows_is P base annotations i ++ all_is s es i
    rows_is s (PlacedPostfix e step span) = assigned_is s e
    rows_is s (PlacedPrefix step e span) = assigned_is s e
    rows_is s (PlacedUnary o e span) = rows_is s e
    rows_is s (PlacedCast n e span) = λ i. base_rows_is P (ClassUse n) i ++ rows_is s e i
    rows_is s (PlacedBinary a o b span) = λ i. rows_is s a i ++ (rows_is s b i ++ unless (rows_is s a i ++ rows_is s b i) (equality_rows P o (is_null a || is_null b) (type_is P c s a i) (type_is P c s b i) span))
    rows_is s (PlacedInstanceOf e n span) = λ i. base_rows_is P (ClassUse n) i ++ rows_is s e i
    rows_is s (PlacedConditional q a b span) = λ i. rows_is s q i ++ (rows_is s a i ++ rows_is s b i)
    rows_is s (PlacedAssign target o e span) = λ i. assigned_is s target i ++ rows_is s e i

    pub assigned_is : (s : Scope) (e : PlacedTree) → assigned_rows (bare P) c at s e ≡ assigned_rows P c at s e
    assigned_is s (PlacedName n) = λ i. assigned_name_is P c at (meaning_is P c s n.name.0 i) n.span i
    assigned_is s (PlacedField e n span) = λ i.
        access_rows_is P c (before_is P c s e i) (type_is P c s e i) (rows_is s e i) n.name.0 n.span i
        ++ unless (access_rows_is P c (before_is P c s e i) (type_is P c s e i) (rows_is s e i) n.name.0 n.span i) (assigned_access_is P c at (access_is P c s e (type_is P c s e i) n.name.0 i) (is_this e) span i)
    assigned_is s (PlacedIndex a x span) = λ i. index_rows P c at (type_is P c s a i) (rows_is s a i) (rows_is s x i) (inner_span a)
    assigned_is s e = refl

    pub all_is : (s : Scope) (es : PlacedTrees) → rows_of_all (bare P) c at s es ≡ rows_of_all P c at s es
    all_is s NoPlacedTrees = refl
    all_is s (MorePlacedTrees e es) = λ i. rows_is s e i ++ all_is s es i
