-- Marks of the numbers that are taken.
use Rattle.std.specs.Prelude.{ℕ, ◌≡◌, Bool, false, List, get_or}
use Rattle.jn_lowering.specs.Temporaries.{is_among}

-- a number is marked just where it is taken
abbrev pub AreMarks : List ℕ → List Bool → Type 0
AreMarks taken marks = (n : ℕ) → is_among n taken ≡ get_or marks n false
