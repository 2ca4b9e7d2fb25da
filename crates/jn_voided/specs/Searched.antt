-- The first pair before a read, in a course that is at hand, and by the turns of a fact.
use Rattle.std.specs.Prelude.{ℕ, ◌≡◌, ◌<◌, ◌≤◌, ◌⊎◌, Bool, true, false, List, Option, Some, None}
use Rattle.jn_voided.specs.declared.course.Passed.{Passed}
use Rattle.jn_quals.specs.Qualifier.{Qualifier}
use Rattle.jn_points.specs.declared.program.Program.{Program}
use Rattle.jn_env.specs.Keys.{Key}
use Rattle.jn_env.specs.Order.{Table}
use Rattle.jn_voided.specs.declared.search.Turned.{Turned}
use Rattle.jn_voided.specs.declared.search.Voided.{Voided}
use Rattle.jn_voided.specs.Turning.{turn_at}
use Rattle.jn_voided.specs.Voided.{Since, is_known, IsFound}

module _ (at : ℕ → Passed) (maker : ℕ → Bool) where
  pub record IsPair (read made ended : ℕ) : Type 0 where
    pub known : Since at maker true made ended
    pub unknown : Since at (λ p. is_known (at p).known) false ended read

  pub record IsFirstPair (read made ended : ℕ) : Type 0 where
    pub is : IsPair read made ended
    pub first : (other end : ℕ) → IsPair read other end → (ended < end) ⊎ ((ended ≡ end) × (made ≤ other))

  abbrev pub IsFoundBy : ℕ → Option Voided → Type 0
  IsFoundBy read None = (made ended : ℕ) → IsPair read made ended → ⊥
  IsFoundBy read (Some v) = IsFirstPair read v.made.0 v.ended.0

abbrev pub pair : Option ℕ → ℕ → Option Voided
pair None ended = None
pair (Some made) ended = Some (record { made = record { 0 = made }; ended = record { 0 = ended } })

-- the pair of the point that ended a fact, where there is one
abbrev pub ended_by : List (Option (Option ℕ)) → Option ℕ → Option Voided
ended_by known None = None
ended_by known (Some ended) = pair (turn_at known ended) ended

-- the pair before a read
abbrev pub voided_before : Turned → ℕ → Option Voided
voided_before t read = ended_by t.known (turn_at t.unknown read)

-- before each read of the body they give the first pair
abbrev pub IsTurned : Program → List Qualifier → ℕ → Table → Key → Turned → Type 0
IsTurned P s b table k t = (read : ℕ) → IsFound P s b table k read (voided_before t read)
