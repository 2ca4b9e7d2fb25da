-- Bodies that are known before sources are lowered.
use Rattle.std.specs.Prelude.{ℕ, ◌≡◌, Bool, true, false, List, [], Option, Some, None, get_or, slice_get}
use Rattle.jn_points.specs.declared.program.Body.{Body}
use Rattle.jn_points.specs.declared.program.Program.{Program}
use Rattle.jn_lowering.specs.Bodies.{Source, body_of_source}
use Rattle.jn_lowering.specs.BodyRows.{rows_of_body}

-- it is there, it is what the source is lowered to, and the source has no row
abbrev pub IsKnown : Program → Source → Option Body → Type 0
IsKnown P s None = ⊥
IsKnown P s (Some body) = (body ≡ body_of_source P s) × (rows_of_body P s ≡ [])

-- where a body is told to be known, that of the source of its number is
abbrev pub AreKnown : Program → List Source → List Body → List Bool → Type 0
AreKnown P ss bodies known = (b : ℕ) (s : Source) → get_or known b false ≡ true → slice_get ss b ≡ Some s → IsKnown P s (slice_get bodies b)
