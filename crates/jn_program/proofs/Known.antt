-- Sources, known bodies and lowered ones by their numbers.
use Rattle.std.proofs.Common.{◌≡◌, ℕ, zero, suc, Bool, true, false, List, [], ◌∷◌, Some, Result, Ok, Err, ap, get_or, subst}
use Rattle.std.specs.Prelude.{slice_get, IfOk}
use Rattle.std.proofs.lemmas.Option.{none-some, same_Some}
use Rattle.jn_base.specs.declared.refusal.OutOfMemory.{OutOfMemory}
use Rattle.jn_points.specs.declared.program.Body.{Body}
use Rattle.jn_points.specs.declared.program.Program.{Program}
use Rattle.jn_lower_stmt.specs.declared.body.Source.{Source}
use Rattle.jn_lower_stmt.specs.Sources.{source_of, sources_of}
use Rattle.jn_program.specs.declared.bodies.LoweredBody.{LoweredBody}
use Rattle.jn_program.specs.Known.{AreKnown, IsKnown}
use Rattle.jn_program.specs.Ranges.{IsLoweredAt, IsLoweredBody}

-- the source of a number as the definitions see it
pub source_there : (ss : List Source) (n : ℕ) (s : Source) → slice_get ss n ≡ Some s → slice_get (sources_of ss) n ≡ Some (source_of s)
source_there [] n s there = absurd (none-some s there)
source_there (x ∷ ss) zero s there = ap (λ y. Some (source_of y)) (same_Some x s there)
source_there (x ∷ ss) (suc n) s there = source_there ss n s there

-- a body that is told to be known is
pub known_there : (P : Program) (ss : List Source) (bodies : List Body) (known : List Bool) (n : ℕ) (s : Source) (body : Body) → AreKnown P (sources_of ss) bodies known → get_or known n false ≡ true → slice_get ss n ≡ Some s → slice_get bodies n ≡ Some body → IsKnown P (source_of s) (Some body)
known_there P ss bodies known n s body are told there is = subst (IsKnown P (source_of s)) is (are n (source_of s) told (source_there ss n s there))

-- what is lowered from the source of a number is lowered at that number
pub lowered_there : (P : Program) (ss : List Source) (n : ℕ) (s : Source) (lowered : Result LoweredBody OutOfMemory) → slice_get ss n ≡ Some s → IfOk lowered (λ l. IsLoweredBody P (source_of s) l) → IfOk lowered (λ l. IsLoweredAt P ss n l)
lowered_there P ss n s (Ok l) there is = (s, there, is)
lowered_there P ss n s (Err e) there is = is
