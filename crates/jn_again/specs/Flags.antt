-- Which bodies may do something else than they did.
use Rattle.std.specs.Prelude.{ℕ, ◌≡◌, ◌↔◌, ◌<◌, Bool, false, true, List, get_or, length}
use Rattle.jn_again.specs.Losing.{told}
use Rattle.jn_points.specs.declared.program.Program.{Program}
use Rattle.jn_points.specs.Lookup.{body_at}
use Rattle.jn_recheck_law.specs.Reusable.{ActAlike}

-- of the first n flags those of bodies are clear where these act as they did
abbrev pub AreChangedBelow : ℕ → Program → Program → List Bool → Type 0
AreChangedBelow n old new flags = (b : ℕ) → b < n → b < length old.bodies → (told flags b ≡ false) ↔ ActAlike (body_at old b) (body_at new b)

-- the bodies that are flagged are the same in both programs
abbrev pub AreSame : Program → Program → List Bool → Type 0
AreSame old new flags = (b : ℕ) → get_or flags b false ≡ true → body_at old b ≡ body_at new b
