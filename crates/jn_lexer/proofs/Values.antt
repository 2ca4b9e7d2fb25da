-- Values of numbers.
use Rattle.std.proofs.Common.{◌≡◌, ℕ, zero, suc, ◌+◌, ◌-◌, ◌*◌, ◌<◌, ◌≤◌, Bool, true, false, cond, List, [], ◌∷◌, length, drop, sym, ap, arith}
use Rattle.std.specs.Prelude.{get_or}
use Rattle.jn_lexer.specs.Characters.{is_digit}
use Rattle.jn_lexer.specs.Lexemes.{value_from, IsNumeral}

abbrev with_digit : ℕ → ℕ → ℕ
with_digit n c = cond (is_digit c) (n * 10 + (c - 48)) n

grows : (n : ℕ) (cs : List ℕ) → n ≤ value_from n cs
grows n [] = omega arith
grows n (c ∷ cs) = let a = more (is_digit c) in let b = grows (with_digit n c) cs in omega (arith, a, b)
  where
    more : (b : Bool) → n ≤ cond b (n * 10 + (c - 48)) n
    more true = omega arith
    more false = omega arith

one_more : (word : List ℕ) (i n x : ℕ) → i < length word → x ≡ get_or word i x → value_from n (drop i word) ≡ value_from (with_digit n x) (drop (suc i) word)
one_more [] i n x l e = absurd (omega arith)
one_more (c ∷ cs) zero n x l e = ap (λ y. value_from (with_digit n y) cs) (sym e)
one_more (c ∷ cs) (suc i) n x l e = one_more cs i n x (omega arith) e

-- once a value is too great, it stays so
pub too_great : (word : List ℕ) (i n m x : ℕ) → i < length word → x ≡ get_or word i x → value_from n (drop i word) ≡ value_from 0 word → m ≡ with_digit n x → 2147483648 < m → (value : ℕ) → IsNumeral word value → ⊥
too_great word i n m x l e inv next big value h =
    let a = one_more word i n x l e in
    let b = grows (with_digit n x) (drop (suc i) word) in
    let v = h.1 in
    let w = h.2 in
    omega (arith, a, b, v, w, inv, next, big)
