-- Words that rise: by joins of words, one after another.
use Rattle.std.proofs.Common.{◌≡◌, ℕ, zero, suc, ◌+◌, ◌<◌, ◌≤◌, Bool, true, false, not, ◌||◌, nat_eq, bit_or, List, [], ◌∷◌, length, drop, refl, sym, ap, ◌∙◌, add-one, arith, rules}
use Rattle.std.specs.Prelude.{slice_index_or}
use Rattle.std.proofs.lemmas.Bool.{eqb-true}
use Rattle.jn_env.specs.Packed.{either_words, rises}
use Rattle.jn_env.proofs.Pairs.{zip_both}

pub words_zip : (xs ys : List ℕ) → zip_both bit_or xs ys ≡ either_words xs ys
words_zip [] ys = refl
words_zip (x ∷ xs) [] = refl
words_zip (x ∷ xs) (y ∷ ys) = ap (λ zs. bit_or x y ∷ zs) (words_zip xs ys)

or_assoc : (a b c : Bool) → ((a || b) || c) ≡ (a || (b || c))
or_assoc true b c = refl
or_assoc false b c = refl

rises_at : (xs ys : List ℕ) (i : ℕ) → i < length xs → i < length ys → rises (drop i xs) (drop i ys) ≡ (not (nat_eq (bit_or (slice_index_or xs i 0) (slice_index_or ys i 0)) (slice_index_or xs i 0)) || rises (drop (suc i) xs) (drop (suc i) ys))
rises_at [] ys i l m = absurd (omega (arith, l))
rises_at (x ∷ xs) [] i l m = absurd (omega (arith, m))
rises_at (x ∷ xs) (y ∷ ys) zero l m = refl
rises_at (x ∷ xs) (y ∷ ys) (suc i) l m = rises_at xs ys i (omega (arith, l)) (omega (arith, m))

pub rises_step : (xs ys : List ℕ) (i : ℕ) (risen more all : Bool) → i < length xs → length xs ≡ length ys → more ≡ (risen || not (nat_eq (bit_or (slice_index_or xs i 0) (slice_index_or ys i 0)) (slice_index_or xs i 0))) → (risen || rises (drop i xs) (drop i ys)) ≡ all → (more || rises (drop (i + 1) xs) (drop (i + 1) ys)) ≡ all
rises_step xs ys i risen more all lt l m h =
    let rest = rises (drop (suc i) xs) (drop (suc i) ys) in
    let now = not (nat_eq (bit_or (slice_index_or xs i 0) (slice_index_or ys i 0)) (slice_index_or xs i 0)) in
    rw add-one (ap (λ z. z || rest) m ∙ or_assoc risen now rest ∙ ap (λ z. risen || z) (sym (rises_at xs ys i lt (omega (arith, lt, l)))) ∙ h)

pub rises_end : (xs ys : List ℕ) (i : ℕ) → length xs ≤ i → rises (drop i xs) (drop i ys) ≡ false
rises_end [] ys zero le = refl
rises_end [] ys (suc i) le = refl
rises_end (x ∷ xs) ys zero le = absurd (omega (arith, le))
rises_end (x ∷ xs) [] (suc i) le = nothing (drop i xs)
  where
    nothing : (zs : List ℕ) → rises zs [] ≡ false
    nothing [] = refl
    nothing (z ∷ zs) = refl
rises_end (x ∷ xs) (y ∷ ys) (suc i) le = rises_end xs ys i (omega (arith, le))

same_from : (m n : ℕ) → nat_eq m n ≡ true → m ≡ n
same_from m n e = eqb-true m n e

same_to : (n : ℕ) → nat_eq n n ≡ true
same_to n = search rules

quiet : (t rest : Bool) → (not t || rest) ≡ false → (t ≡ true) × (rest ≡ false)
quiet true rest e = (refl, e)
quiet false rest e = absurd (cc)

-- words that don't rise stay
pub still : (xs ys : List ℕ) → length xs ≡ length ys → rises xs ys ≡ false → either_words xs ys ≡ xs
still [] [] l e = refl
still [] (y ∷ ys) l e = absurd (omega (arith, l))
still (x ∷ xs) [] l e = refl
still (x ∷ xs) (y ∷ ys) l e =
    let parts = quiet (nat_eq (bit_or x y) x) (rises xs ys) e in
    ap (λ z. z ∷ either_words xs ys) (same_from (bit_or x y) x parts.0) ∙ ap (λ zs. x ∷ zs) (still xs ys (omega (arith, l)) parts.1)

-- words that rise change
pub moved : (xs ys : List ℕ) → length xs ≡ length ys → either_words xs ys ≡ xs → rises xs ys ≡ false
moved [] ys l same = refl
moved (x ∷ xs) [] l same = refl
moved (x ∷ xs) (y ∷ ys) l same =
    let first : bit_or x y ≡ x = cc in
    let more : either_words xs ys ≡ xs = cc in
    let is : nat_eq (bit_or x y) x ≡ true = ap (λ n. nat_eq n x) first ∙ same_to x in
    ap (λ t. not t || rises xs ys) is ∙ moved xs ys (omega (arith, l)) more
