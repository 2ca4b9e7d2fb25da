-- The last line of a text.
use Rattle.std.proofs.Common.{◌≡◌, ℕ, zero, suc, ◌-◌, ◌≤◌, ◌<◌, true, false, List, [], ◌∷◌, length, get_or, drop, refl, subst, sym, arith}
use Rattle.std.specs.List.{list_any}
use Rattle.std.proofs.lemmas.List.Folds.{list_any_at}
use Rattle.jn_base.specs.Place.{is_line_end, last_line}

-- a text without a line end is its own last line
pub one_line : (text : List ℕ) → list_any is_line_end text ≡ false → last_line text ≡ text
one_line [] h = refl
one_line (byte ∷ rest) h = rw h refl

ends_at : (text : List ℕ) (i : ℕ) → i < length text → is_line_end (get_or text i 0) ≡ true → list_any is_line_end (drop (suc i) text) ≡ false → last_line text ≡ drop (suc i) text
ends_at [] i lt ends none = refl
ends_at (byte ∷ rest) zero lt ends none =
    let some : list_any is_line_end (byte ∷ rest) ≡ true = list_any_at is_line_end (byte ∷ rest) 0 0 lt ends in
    rw some (one_line rest none)
ends_at (byte ∷ rest) (suc i) lt ends none =
    let some : list_any is_line_end (byte ∷ rest) ≡ true = list_any_at is_line_end (byte ∷ rest) (suc i) 0 lt ends in
    let within : i < length rest = omega arith in
    rw some (ends_at rest i within ends none)

-- after the last line end stands the last line
pub last_line_at : (text : List ℕ) (start : ℕ) → 0 < start → start ≤ length text → is_line_end (get_or text (start - 1) 0) ≡ true → list_any is_line_end (drop start text) ≡ false → last_line text ≡ drop start text
last_line_at text start some within ends none =
    let lt : start - 1 < length text = omega arith in
    let e : suc (start - 1) ≡ start = omega arith in
    let none_behind : list_any is_line_end (drop (suc (start - 1)) text) ≡ false = subst (λ n. list_any is_line_end (drop n text) ≡ false) (sym e) none in
    subst (λ n. last_line text ≡ drop n text) e (ends_at text (start - 1) lt ends none_behind)
