-- What is left before a step of a loop, and at its end.
use Rattle.std.proofs.Common.{◌≡◌, ◌<◌, ◌≤◌, ◌+◌, ℕ, List, [], ◌∷◌, length, drop, get_or, map, sym, ap, ◌∙◌}
use Rattle.std.proofs.lemmas.List.{drop_more}
use Rattle.std.proofs.Math.ListN.{drop_of_length-le}

pub left_before : {A B : Type 0} (seen : A → B) (xs : List A) (i : ℕ) (x : A) → i < length xs → x ≡ get_or xs i x → map seen (drop i xs) ≡ seen x ∷ map seen (drop (i + 1) xs)
left_before seen xs i x lt is = ap (map seen) (drop_more xs i x lt) ∙ ap (λ y. seen y ∷ map seen (drop (i + 1) xs)) (sym is)

pub none_left : {A B : Type 0} (seen : A → B) (xs : List A) (i : ℕ) → length xs ≤ i → map seen (drop i xs) ≡ []
none_left seen xs i le = ap (map seen) (drop_of_length-le xs le)
