-- An environment as one list of bits, set for what may be: three for each register, then one for each key whose field
-- may be null, then one for each own field that may be unassigned.
use Rattle.std.specs.Prelude.{ℕ, zero, suc, ◌+◌, ◌*◌, Bool, true, false, not, cond, List, [], ◌∷◌, map, take, drop}
use Rattle.jn_quals.specs.Qualifier.{Qualifier}
use Rattle.jn_env.specs.Environment.{Env}
use Rattle.jn_env.specs.Keys.{mask, also}

abbrev pub quals_of : ℕ → List Bool → List Qualifier
quals_of zero bits = []
quals_of (suc n) [] = []
quals_of (suc n) (x ∷ []) = []
quals_of (suc n) (x ∷ (y ∷ [])) = []
quals_of (suc n) (x ∷ (y ∷ (z ∷ bits))) = record { null = x; committed = y; free = z } ∷ quals_of n bits

-- the environment of so many registers and keys that bits are
abbrev pub env_of : List Bool → ℕ → ℕ → Env
env_of bits registers facts = record { quals = quals_of registers bits; facts = map not (take facts (drop (3 * registers) bits)); assigned = map not (drop (3 * registers + facts) bits) }

-- a bit is written at each key that passes
abbrev pub written : {K : Type 0} → (K → Bool) → Bool → List K → List Bool → List Bool
written test wanted [] bits = bits
written test wanted (k ∷ keys) [] = []
written test wanted (k ∷ keys) (b ∷ bits) = cond (test k) wanted b ∷ written test wanted keys bits

-- bits are set at keys that pass, or cleared there
abbrev pub marked : {K : Type 0} → Bool → (K → Bool) → List K → List Bool → List Bool
marked true test keys bits = also test keys bits
marked false test keys bits = mask (λ k. not (test k)) keys bits
