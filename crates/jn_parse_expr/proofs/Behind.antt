-- The place after what was read.
use Rattle.std.proofs.Common.{◌≡◌, ℕ, ◌+◌, ◌-◌, ◌<◌, ◌≤◌, List, [], ◌∷◌, ◌++◌, length, drop, true, sym, ap, ◌∙◌, subst, arith, length-append, length-drop, Some}
use Rattle.std.proofs.Math.Seq.{drop-append_seam}
use Rattle.std.proofs.lemmas.List.{drop-drop, length-map}
use Rattle.jn_trees.specs.declared.token.Token.{Token}
use Rattle.jn_trees.specs.declared.token.TokenKind.{TokenKind}
use Rattle.jn_trees.specs.Trees.{Tree}
use Rattle.jn_trees.specs.Spelling.{spell}
use Rattle.jn_trees.specs.Longest.{IsLongest}
use Rattle.jn_trees.specs.Pieces.{kinds}
use Rattle.jn_parse_expr_law.proofs.Items.{begins, begins_tree}

some_length : (xs : List TokenKind) → begins (xs ++ []) ≡ true → 0 < length xs
some_length [] e = cc
some_length (x ∷ xs) e = omega arith

some_spelling : (t : Tree) → 0 < length (spell t)
some_spelling t = some_length (spell t) (begins_tree t [])

ends : (at : ℕ) (ts ys us : List TokenKind) → at ≤ length ts → drop at ts ≡ ys ++ us → length ts ≡ at + length ys + length us
ends at ts ys us le e =
    let long : length (drop at ts) ≡ length (ys ++ us) = ap length e in
    omega (arith, le, long, length-drop at ts, length-append ys us)

behind : (at n : ℕ) (ts ys us : List TokenKind) → n ≡ at + length ys → drop at ts ≡ ys ++ us → drop n ts ≡ us
behind at n ts ys us is e = ap (λ m. drop m ts) is ∙ sym (drop-drop (length ys) at ts) ∙ ap (drop (length ys)) e ∙ drop-append_seam ys us

-- the place after the tree, in tokens
pub record IsBehind (at d : ℕ) (tokens rest : List Token) (t : Tree) : Type 0 where
  pub shorter : length rest ≤ length tokens
  pub later : at < length tokens - length rest
  pub longest : IsLongest d (drop at (kinds tokens)) (Some (t, drop (length tokens - length rest) (kinds tokens)))

pub is_behind : (at d : ℕ) (tokens rest : List Token) (t : Tree) → at ≤ length tokens → IsLongest d (drop at (kinds tokens)) (Some (t, kinds rest)) → IsBehind at d tokens rest t
is_behind at d tokens rest t le h =
    let many = length-map tokens (λ (x : Token). x.kind) in
    let fewer = length-map rest (λ (x : Token). x.kind) in
    let some = some_spelling t in
    let all : length (kinds tokens) ≡ at + length (spell t) + length (kinds rest) = ends at (kinds tokens) (spell t) (kinds rest) (omega (arith, le, many)) h.0.0 in
    let place : length tokens - length rest ≡ at + length (spell t) = omega (arith, all, many, fewer) in
    record {
      shorter = omega (arith, all, many, fewer);
      later = omega (arith, place, some);
      longest = subst (λ us. IsLongest d (drop at (kinds tokens)) (Some (t, us))) (sym (behind at (length tokens - length rest) (kinds tokens) (spell t) (kinds rest) place h.0.0)) h;
    }
