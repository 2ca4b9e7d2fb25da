-- A file has one tree or one syntax row.
use Rattle.std.proofs.Common.{◌≡◌, ℕ, ◌+◌, ◌<◌, ◌≤◌, List, take, sym, ap, ◌∙◌, arith}
use mathlib.Core.Logic.{inl, inr}
use Rattle.jn_base.specs.declared.number.FileNo.{FileNo}
use Rattle.jn_base.specs.declared.place.Row.{Row}
use Rattle.jn_base.specs.declared.code.Code.TheVariants.{S1, S2}
use Rattle.jn_trees.specs.declared.token.Token.{Token}
use Rattle.jn_trees.specs.declared.token.TokenKind.{TokenKind}
use Rattle.jn_trees.specs.Trees.{SourceTree}
use Rattle.jn_trees.specs.Pieces.{Language, AtStart, pieces, IsPlace, IsTooDeep, Shallow, opened_from, most_open, kinds, token_place, IsFile, IsSyntaxRow}
use Rattle.jn_parse_decl_law.proofs.FileLaws.{one_tree}

equal : (m n : ℕ) → m ≤ n → n ≤ m → m ≡ n
equal m n h k = omega (arith, h, k)

pub one_place : (L : Language) (s : L.State) (ts : List TokenKind) (m n : ℕ) → IsPlace L s ts m → IsPlace L s ts n → m ≡ n
one_place L s ts m n h k = equal m n (k.greatest m h.reached) (h.greatest n k.reached)

within : (m n k : ℕ) → (m < n → k ≤ most_open) → most_open < k → n ≤ m
within m n k first passes = grind (arith, first, passes)

one_deep : (ts : List TokenKind) (m n : ℕ) → IsTooDeep ts m → IsTooDeep ts n → m ≡ n
one_deep ts m n h k =
    equal m n (within n m (opened_from 0 (take (n + 1) ts)) (h.first n) k.passes) (within m n (opened_from 0 (take (m + 1) ts)) (k.first m) h.passes)

not_shallow : (ts : List TokenKind) (n : ℕ) → IsTooDeep ts n → Shallow ts → ⊥
not_shallow ts n h s = omega (arith, h.passes, s n h.inside)

pub one_row : (file : FileNo) (end : ℕ) (tokens : List Token) (a b : Row) → IsSyntaxRow file end tokens a → IsSyntaxRow file end tokens b → a ≡ b
one_row file end tokens a b (inl h) (inl k) =
    h.is ∙ ap (λ n. record { span = token_place file end tokens n; code = S2 }) (one_deep (kinds tokens) h.place k.place h.deep k.deep) ∙ sym k.is
one_row file end tokens a b (inl h) (inr k) = absurd (not_shallow (kinds tokens) h.place h.deep k.shallow)
one_row file end tokens a b (inr h) (inl k) = absurd (not_shallow (kinds tokens) k.place k.deep h.shallow)
one_row file end tokens a b (inr h) (inr k) =
    h.is ∙ ap (λ n. record { span = token_place file end tokens n; code = S1 }) (one_place pieces AtStart (kinds tokens) h.place k.place h.ends k.ends) ∙ sym k.is

pub not_both : (file : FileNo) (end : ℕ) (tokens : List Token) (row : Row) (tree : SourceTree) → IsSyntaxRow file end tokens row → IsFile tokens tree → ⊥
not_both file end tokens row tree (inl h) f = not_shallow (kinds tokens) h.place h.deep f.2
not_both file end tokens row tree (inr h) f = h.no_tree tree f.0 f.1

pub one_file : (tokens : List Token) (t u : SourceTree) → IsFile tokens t → IsFile tokens u → t ≡ u
one_file tokens t u f g = one_tree t u f.0 g.0 (sym f.1 ∙ g.1)
