-- A step of the pass over a text and the words that are put into it.
use Rattle.std.proofs.Common.{◌≡◌, ℕ, zero, suc, ◌+◌, ◌-◌, ◌<◌, ◌≤◌, List, [], ◌∷◌, ◌++◌, length, refl, sym, ap, ◌∙◌, subst, arith, append_assoc}
use Rattle.std.specs.Prelude.{take, drop, map, slice_index_or}
use Rattle.jn_splice_law.specs.Inserted.{Insertion, inserted}
use Rattle.jn_splice_law.specs.Passed.{Rising, passed}
use Rattle.jn_splice_law.proofs.Passing.{by_one_pass}
use Rattle.jn_annotate.specs.declared.insert.Put.{Put}
use Rattle.jn_annotate.specs.Puts.{insertion}

split : (xs : List Put) (k : ℕ) (d : Put) → k < length xs → drop k xs ≡ slice_index_or xs k d ∷ drop (k + 1) xs
split [] k d l = absurd (omega (arith, l))
split (x ∷ xs) zero d l = refl
split (x ∷ xs) (suc k) d l = split xs k d (omega (arith, l)) ∙ ap (λ j. slice_index_or xs k d ∷ drop j (x ∷ xs)) (let e : suc (k + 1) ≡ suc k + 1 = omega arith in e)

nothing_left : (xs : List Put) (k : ℕ) → length xs ≤ k → drop k xs ≡ []
nothing_left [] zero l = refl
nothing_left [] (suc k) l = refl
nothing_left (x ∷ xs) zero l = absurd (omega (arith, l))
nothing_left (x ∷ xs) (suc k) l = nothing_left xs k (omega (arith, l))

drop_none : (k : ℕ) → drop k [] ≡ let none : List ℕ = [] in none
drop_none zero = refl
drop_none (suc k) = refl

drop_further : (m n : ℕ) (xs : List ℕ) → drop (m + n) xs ≡ drop n (drop m xs)
drop_further zero n xs = ap (λ k. drop k xs) (let e : 0 + n ≡ n = omega arith in e)
drop_further (suc m) n [] = drop_none (suc m + n) ∙ sym (drop_none n)
drop_further (suc m) n (x ∷ xs) = ap (λ k. drop k (x ∷ xs)) (let e : suc m + n ≡ suc (m + n) = omega arith in e) ∙ drop_further m n xs

-- what the loop keeps: what is made, with what is left, is the whole
abbrev pub Kept : List ℕ → List Put → List ℕ → ℕ → ℕ → Type 0
Kept text puts new from k = (new ++ passed from (drop from text) (map insertion (drop k puts)) ≡ passed 0 text (map insertion puts)) × (from ≤ length text) × Rising from (length text) (map insertion (drop k puts))

pub step : (text : List ℕ) (puts : List Put) (old new : List ℕ) (from k : ℕ) (put : Put) → put ≡ slice_index_or puts k put → k < length puts → new ≡ old ++ (take (put.at - from) (drop from text) ++ put.words) → Kept text puts old from k → Kept text puts new put.at (k + 1)
step text puts old new from k put is l made h =
    let rest : List Insertion = map insertion (drop (k + 1) puts) in
    let left : map insertion (drop k puts) ≡ insertion put ∷ rest = ap (map insertion) (split puts k put l ∙ ap (λ x. x ∷ drop (k + 1) puts) (sym is)) in
    let rises = subst (Rising from (length text)) left h.2 in
    let low = rises.0 in
    let n : ℕ = put.at - from in
    let at_is : from + n ≡ put.at = omega (arith, low) in
    let there : drop n (drop from text) ≡ drop put.at text = sym (drop_further from n text) ∙ ap (λ i. drop i text) at_is in
    let T : List ℕ = take n (drop from text) in
    let R : List ℕ = passed put.at (drop put.at text) rest in (
      ap (λ x. x ++ R) made ∙ append_assoc old (T ++ put.words) R ∙ ap (λ x. old ++ x) (append_assoc T put.words R)
          ∙ ap (λ x. old ++ (T ++ (put.words ++ passed put.at x rest))) (sym there) ∙ ap (λ x. old ++ passed from (drop from text) x) (sym left) ∙ h.0,
      rises.1,
      rises.2,
    )

pub last : (text : List ℕ) (puts : List Put) (old new : List ℕ) (from k : ℕ) → Rising 0 (length text) (map insertion puts) → length puts ≤ k → new ≡ old ++ drop from text → Kept text puts old from k → new ≡ inserted text (map insertion puts)
last text puts old new from k rises l made h =
    made ∙ ap (λ x. old ++ passed from (drop from text) (map insertion x)) (sym (nothing_left puts k l)) ∙ h.0 ∙ sym (by_one_pass text (map insertion puts) rises)

-- places rise where the first stands after the last one passed, and the others after it
pub rising_more : (from end : ℕ) (put : Put) (left : List Put) (whole : Type 0) → from ≤ put.at → put.at ≤ end → (Rising from end (map insertion (put ∷ left)) → whole) → Rising put.at end (map insertion left) → whole
rising_more from end put left whole low high goes h = goes (low, high, h)
