-- A part of a list, one item after the other.
use Rattle.std.proofs.Common.{◌≡◌, ◌<◌, ℕ, suc, ◌+◌, ◌-◌, List, [], ◌∷◌, ◌++◌, length, take, drop, get_or, sym, ap, ◌∙◌, append_assoc, arith}
use Rattle.std.proofs.lemmas.List.{drop_more}
use Rattle.jn_base.specs.declared.place.Row.{Row}

next : (xs : List Row) (i to : ℕ) (d : Row) → i < to → i < length xs → take (to - i) (drop i xs) ≡ get_or xs i d ∷ take (to - (i + 1)) (drop (i + 1) xs)
next xs i to d h l = (let e : to - i ≡ suc (to - (i + 1)) = omega (h, arith) in ap (λ n. take n (drop i xs)) e) ∙ ap (λ ys. take (suc (to - (i + 1))) ys) (drop_more xs i d l)

pub part_step : (old new whole : List Row) (xs : List Row) (i to : ℕ) (d : Row) → i < to → i < length xs → old ++ take (to - i) (drop i xs) ≡ whole → new ≡ old ++ get_or xs i d ∷ [] → new ++ take (to - (i + 1)) (drop (i + 1) xs) ≡ whole
part_step old new whole xs i to d h l inv e =
    ap (λ r. r ++ take (to - (i + 1)) (drop (i + 1) xs)) e ∙ append_assoc old (get_or xs i d ∷ []) (take (to - (i + 1)) (drop (i + 1) xs)) ∙ sym (ap (λ ys. old ++ ys) (next xs i to d h l)) ∙ inv
