-- Hunks, found one by one.
use Rattle.std.proofs.Common.{◌≡◌, ◌≢◌, ℕ, zero, suc, ◌+◌, ◌-◌, ◌<◌, true, false, cond, List, [], ◌∷◌, ◌++◌, length, refl, sym, ap, ◌∙◌, arith, append_assoc}
use Rattle.std.specs.Prelude.{drop, take}
use Rattle.jn_diff.specs.declared.line.Line.{Line}
use Rattle.jn_diff.specs.Diff.{added_count, hunk_text, hunks_text}
use Rattle.jn_diff.specs.Hunks.{due_behind, hunk_of, hunks_from, is_shown, shown_count}

-- the lines of a hunk that began before are passed over
pub passed : (first inside : ℕ) (ls : List Line) → hunks_from first inside ls ≡ hunks_from (first + inside) 0 (drop inside ls)
passed first zero ls = ap (λ k. hunks_from k 0 ls) (let e : first ≡ first + 0 = omega arith in e)
passed first (suc inside) [] = refl
passed first (suc inside) (l ∷ ls) = passed (suc first) inside ls ∙ ap (λ k. hunks_from k 0 (drop inside ls)) (let e : suc first + inside ≡ first + suc inside = omega arith in e)

-- no hunk begins with the first line
pub none_begins : (first : ℕ) (ls : List Line) → 0 < length ls → shown_count 0 ls ≡ 0 → hunks_from (first + 1) 0 (drop 1 ls) ≡ hunks_from first 0 ls
none_begins first [] some none = absurd (omega (arith, some))
none_begins first (l ∷ ls) some none =
    ap (λ k. hunks_from k 0 ls) (let e : first + 1 ≡ suc first = omega arith in e)
    ∙ sym (ap (λ n. hunk_of first n (l ∷ ls) ++ hunks_from (suc first) (n - 1) ls) none)

-- one begins
pub one_begins : (first n : ℕ) (ls : List Line) → shown_count 0 ls ≡ n → n ≢ 0 → hunks_from first 0 ls ≡ record { first = first; lines = take n ls } ∷ hunks_from (first + n) 0 (drop n ls)
one_begins first zero ls is some = absurd (some refl)
one_begins first (suc n) [] is some = absurd (omega (arith, is))
one_begins first (suc n) (l ∷ ls) is some =
    ap (λ k. hunk_of first k (l ∷ ls) ++ hunks_from (suc first) (k - 1) ls) is
    ∙ ap (λ k. record { first = first; lines = take (suc n) (l ∷ ls) } ∷ hunks_from (suc first) k ls) (let e : suc n - 1 ≡ n = omega arith in e)
    ∙ ap (λ hs. record { first = first; lines = take (suc n) (l ∷ ls) } ∷ hs) (passed (suc first) n ls ∙ ap (λ k. hunks_from k 0 (drop n ls)) (let e : suc first + n ≡ first + suc n = omega arith in e))

-- a line more is shown
pub shown_more : (due : ℕ) (l : Line) (ls : List Line) → is_shown due (l ∷ ls) ≡ true → shown_count due (l ∷ ls) ≡ suc (shown_count (due_behind due l) ls)
shown_more due l ls shown = ap (λ c. cond c (suc (shown_count (due_behind due l) ls)) 0) shown

pub shown_no_more : (due : ℕ) (ls : List Line) → is_shown due ls ≡ false → shown_count due ls ≡ 0
shown_no_more due [] hidden = refl
shown_no_more due (l ∷ ls) hidden = ap (λ c. cond c (suc (shown_count (due_behind due l) ls)) 0) hidden

-- the text of a hunk after those before it
pub hunk_put : (text new hunk : List ℕ) (back first n : ℕ) (ls : List Line) → shown_count 0 ls ≡ n → n ≢ 0 → hunk ≡ hunk_text back (record { first = first; lines = take n ls }) → new ≡ text ++ hunk → new ++ hunks_text (back + added_count (take n ls)) (hunks_from (first + n) 0 (drop n ls)) ≡ text ++ hunks_text back (hunks_from first 0 ls)
hunk_put text new hunk back first n ls is some spells put =
    let later : List ℕ = hunks_text (back + added_count (take n ls)) (hunks_from (first + n) 0 (drop n ls)) in
    ap (λ x. x ++ later) (put ∙ ap (λ x. text ++ x) spells)
    ∙ append_assoc text (hunk_text back (record { first = first; lines = take n ls })) later
    ∙ ap (λ hs. text ++ hunks_text back hs) (sym (one_begins first n ls is some))
