-- Declared types by the numbers of their names.
use Rattle.std.specs.Prelude.{ℕ, zero, suc, ◌≡◌, Bool, false, eqb, ltb, List, Option, Some, None, slice_index}
use Rattle.jn_points.specs.Members.{first_at}
use Rattle.jn_heads.specs.declared.head.ClassHead.{ClassHead}

abbrev pub some_place : ℕ → Option ℕ
some_place zero = None
some_place (suc n) = Some (suc n)

-- what stands at a place, where 0 stands for nothing
abbrev pub place_at : List ℕ → ℕ → Option ℕ
place_at places n = some_place (slice_index places n)

-- each place has the number of the first declared class of that name
abbrev pub ArePlaces : List ClassHead → List ℕ → Type 0
ArePlaces heads places = (n : ℕ) → place_at places n ≡ first_at (λ h. eqb h.name.name.0 n) 2 heads

-- there is a number, and it is below the place
abbrev pub is_before : Option ℕ → ℕ → Bool
is_before None place = false
is_before (Some first) place = ltb first place
