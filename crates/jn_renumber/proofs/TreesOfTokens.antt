-- The tree of renumbered tokens.
use Rattle.std.proofs.Common.{◌≡◌, ℕ, zero, suc, ◌+◌, ◌≤◌, ◌<◌, List, [], ◌∷◌, map, length, take, refl, ap, sym, ◌∙◌, subst}
use Rattle.jn_base.specs.declared.number.NameNo.{NameNo}
use Rattle.jn_trees.specs.declared.token.Token.{Token}
use Rattle.jn_trees.specs.declared.token.TokenKind.{TokenKind}
use Rattle.jn_trees.specs.declared.token.TokenKind.TheVariants.{Id, Str}
use Rattle.jn_trees.specs.Pieces.{kinds, opened, opened_from, Shallow, IsFile}
use Rattle.jn_trees.specs.Trees.{SourceTree}
use Rattle.jn_places.specs.Forget.{forget_file}
use Rattle.jn_places.specs.Placed.{PlacedFile}
use Rattle.jn_places.specs.Places.{place_file, IsPlacedFile}
use Rattle.jn_renumber.specs.ByNumbers.{file_by}
use Rattle.jn_renumber.specs.Renumbered.{renumbered_file}
use Rattle.jn_renumber.specs.Tokens.{kind_by, tokens_by}
use Rattle.jn_renumber.proofs.Forgotten.{file_kept}
use Rattle.jn_renumber.proofs.Placed.{file_same}
use Rattle.jn_renumber.proofs.Spelled.{file_spelled}
use Rattle.jn_renumber.proofs.StillGood.{good_file}

module _ (ns : List NameNo) where
  pub kinds_by : (ts : List Token) → kinds (tokens_by ns ts) ≡ map (kind_by ns) (kinds ts)
  kinds_by [] = refl
  kinds_by (t ∷ ts) = ap (λ ks. kind_by ns t.kind ∷ ks) (kinds_by ts)

  opened_by : (n : ℕ) (k : TokenKind) → opened n (kind_by ns k) ≡ opened n k
  opened_by n (Id name) = refl
  opened_by n (Str name) = refl
  opened_by n k = refl

  pub opened_from_by : (n : ℕ) (ks : List TokenKind) → opened_from n (map (kind_by ns) ks) ≡ opened_from n ks
  opened_from_by n [] = refl
  opened_from_by n (k ∷ ks) = ap (λ m. opened_from m (map (kind_by ns) ks)) (opened_by n k) ∙ opened_from_by (opened n k) ks

  pub take_by : (n : ℕ) (ks : List TokenKind) → take n (map (kind_by ns) ks) ≡ map (kind_by ns) (take n ks)
  take_by zero ks = refl
  take_by (suc n) [] = refl
  take_by (suc n) (k ∷ ks) = ap (λ r. kind_by ns k ∷ r) (take_by n ks)

  pub length_by : (ks : List TokenKind) → length (map (kind_by ns) ks) ≡ length ks
  length_by [] = refl
  length_by (k ∷ ks) = ap suc (length_by ks)

  pub shallow : (ks : List TokenKind) → Shallow ks → Shallow (map (kind_by ns) ks)
  shallow ks s m lt =
      let depth = ap (opened_from 0) (take_by (m + 1) ks) ∙ opened_from_by 0 (take (m + 1) ks) in
      subst (λ n. n ≤ 200) (sym depth) (s m (subst (λ n. m < n) (length_by ks) lt))

  pub file_renumbered : (ts : List Token) (t : SourceTree) → IsFile ts t → IsFile (tokens_by ns ts) (file_by ns t)
  file_renumbered ts t is =
      (good_file ns t is.0, kinds_by ts ∙ ap (map (kind_by ns)) is.1 ∙ sym (file_spelled ns t), subst Shallow (sym (kinds_by ts)) (shallow (kinds ts) is.2))

  pub placed_renumbered : (ts : List Token) (f : PlacedFile) → IsPlacedFile ts f → IsPlacedFile (tokens_by ns ts) (renumbered_file ns f)
  placed_renumbered ts f is = (
    subst (IsFile (tokens_by ns ts)) (sym (file_kept ns f)) (file_renumbered ts (forget_file f) is.0),
    ap (renumbered_file ns) is.1 ∙ sym (file_same ns ts (forget_file f)) ∙ ap (place_file (tokens_by ns ts)) (sym (file_kept ns f)),
  )
