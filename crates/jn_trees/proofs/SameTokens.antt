-- The derived test of two tokens decides whether they are one.
use Rattle.std.proofs.Common.{◌≡◌, ℕ, nat_eq, Bool, true, false, List, [], ◌∷◌, Decides, refl, ap, sym, ◌∙◌}
use mathlib.Core.Logic.{inl, inr}
use denote.Struct.Field.{Field}
use denote.Struct.Values.{Values}
use denote.Enum.Bare.{Bare}
use denote.Enum.Declared.{Choice, values_one}
use denote.Enum.Compared.{Each, by}
use Rattle.std.proofs.lemmas.Bool.Decides.{Decides-eqb}
use Rattle.jn_trees.specs.declared.token.TokenKind.{TokenKind}
use Rattle.jn_trees.specs.contracts.token.TokenKind.{enum}
use Rattle.jn_trees.specs.contracts.token.TokenKindPartialEq.TheImpl.{ghosts as token_test}
use Rattle.jn_base.specs.declared.number.NameNo.{NameNo}
use Rattle.jn_base.specs.contracts.number.NameNoPartialEq.TheImpl.{ghosts as name_test}

-- the test of each variant decides
abbrev AllDecide : (variants : List (List Field)) → Each Bool variants → Type 0
AllDecide [] each = Unit {0}
AllDecide (fields ∷ variants) each = ((x y : Values fields) → Decides (each.0 x y) (x ≡ y)) × AllDecide variants each.1

abbrev points : (variants : List (List Field)) → Each Bool variants
points [] = tt
points (fields ∷ variants) = (λ x y. true, points variants)

points_decide : (variants : List (List Field)) → Bare variants → AllDecide variants (points variants)
points_decide [] bare = tt
points_decide ([] ∷ variants) bare = (λ x y. (λ h. refl, λ e. refl), points_decide variants bare)
points_decide ((field ∷ fields) ∷ variants) bare = absurd bare

decides : (variants : List (List Field)) (each : Each Bool variants) → AllDecide variants each → (c d : Choice variants) → Decides (by false false variants each c d) (c ≡ d)
decides [] each all c d = absurd c
decides (fields ∷ variants) each all (inl x) (inl y) = (λ h. ap inl ((all.0 x y).0 h), λ e. (all.0 x y).1 cc)
decides (fields ∷ variants) each all (inl x) (inr y) = (λ h. cc, λ e. cc)
decides (fields ∷ variants) each all (inr x) (inl y) = (λ h. cc, λ e. cc)
decides (fields ∷ variants) each all (inr x) (inr y) = (λ h. ap inr ((decides variants each.1 all.1 x y).0 h), λ e. (decides variants each.1 all.1 x y).1 cc)

abbrev behind_first : List (List Field) → List (List Field)
behind_first [] = []
behind_first (fields ∷ variants) = variants

abbrev bare_variants : List (List Field)
bare_variants = behind_first (behind_first (behind_first enum.parts))

same_names : (x y : NameNo) → Decides (name_test.eq x y) (x ≡ y)
same_names x y = (λ h. let e = (Decides-eqb x.0 y.0).0 h in (λ i. record { 0 = e i }), λ e. (Decides-eqb x.0 y.0).1 (λ i. (e i).0))

by_name : (x y : NameNo × Unit {0}) → Decides (name_test.eq x.0 y.0) (x ≡ y)
by_name x y = (λ h. (let e = (same_names x.0 y.0).0 h in λ i. (e i, tt)), λ e. (same_names x.0 y.0).1 (λ i. (e i).0))

by_number : (x y : ℕ × Unit {0}) → Decides (nat_eq x.0 y.0) (x ≡ y)
by_number x y = (λ h. (let e = (Decides-eqb x.0 y.0).0 h in λ i. (e i, tt)), λ e. (Decides-eqb x.0 y.0).1 (λ i. (e i).0))

pub same_tokens : (a b : TokenKind) → Decides (token_test.eq a b) (a ≡ b)
same_tokens a b =
    let d = decides enum.parts ((λ x y. name_test.eq x.0 y.0), ((λ x y. name_test.eq x.0 y.0), ((λ x y. nat_eq x.0 y.0), points bare_variants))) (by_name, (by_name, (by_number, points_decide bare_variants tt))) (enum.as_values a) (enum.as_values b) in
    (λ h. values_one enum a b (d.0 h), λ e. d.1 (ap enum.as_values e))

abbrev first_or : TokenKind → List TokenKind → TokenKind
first_or k [] = k
first_or k (x ∷ xs) = x

-- where the test fails, no tokens that begin with the one begin with the other
pub other_token : (a b : TokenKind) (ts us : List TokenKind) → token_test.eq a b ≡ false → ts ≡ a ∷ us → (rest : List TokenKind) → ts ≡ b ∷ rest → ⊥
other_token a b ts us differ e rest f =
    let same : a ≡ b = ap (first_or a) (sym e ∙ f) in
    let equal : token_test.eq a b ≡ true = (same_tokens a b).1 same in
    cc
