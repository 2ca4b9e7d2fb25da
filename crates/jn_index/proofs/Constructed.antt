-- Lists that are made from lists, one by one.
use Rattle.std.proofs.Common.{◌≡◌, ℕ, zero, suc, Bool, List, [], ◌∷◌, refl}
use Rattle.std.specs.Prelude.{map, filter}
use Rattle.jn_member_tables.specs.Numbers.{list_at}

pub list_mapped : (test : ℕ → Bool) (lists : List (List ℕ)) (d : ℕ) → list_at (map (filter test) lists) d ≡ filter test (list_at lists d)
list_mapped test [] zero = refl
list_mapped test [] (suc d) = refl
list_mapped test (xs ∷ lists) zero = refl
list_mapped test (xs ∷ lists) (suc d) = list_mapped test lists d
