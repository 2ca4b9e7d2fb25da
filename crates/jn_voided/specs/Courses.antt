-- Lists of what holds at each point.
use Rattle.std.specs.Prelude.{ℕ, ◌≡◌, Bool, true, false, List, [], Option, Some, None, slice_get, slice_index_or}
use Rattle.jn_quals.specs.Qualifier.{Qualifier}
use Rattle.jn_points.specs.declared.point.Point.{Point}
use Rattle.jn_points.specs.declared.program.Program.{Program}
use Rattle.jn_env.specs.Keys.{Key}
use Rattle.jn_env.specs.Order.{Table}
use Rattle.jn_voided.specs.declared.course.Passed.{Passed}
use Rattle.jn_voided.specs.Voided.{course, makes}

abbrev pub not_passed : Passed
not_passed = record { known = None; ways = [] }

abbrev pub passed_in : List Passed → ℕ → Passed
passed_in course p = slice_index_or course p not_passed

abbrev pub is_in : List Bool → ℕ → Bool
is_in marks p = slice_index_or marks p false

-- the points that test the field or write it
abbrev pub AreMakers : Key → List Point → List Bool → Type 0
AreMakers k points marks = (p : ℕ) → is_in marks p ≡ makes k (slice_get points p)

-- the fact's course, point by point
abbrev pub IsCourse : Program → List Qualifier → ℕ → Table → Key → List Passed → Type 0
IsCourse P s b t k passed = (p : ℕ) → passed_in passed p ≡ course P s b t k p

abbrev pub is_there : Option ℕ → Bool
is_there None = false
is_there (Some from) = true
