-- What a source of files holds, and what its calls do.
use Rattle.std.specs.Prelude.{ℕ, ◌<◌, ◌≤◌, ◌≡◌, List, [], ◌++◌, length, take, drop, Option, Some, None, IsSome}

-- what each name holds
abbrev pub Holding : Type 0
Holding = List ℕ → Option (List ℕ)

-- the name is known to be held
abbrev pub Holds : Option Holding → List ℕ → Type 0
Holds None name = ⊥
Holds (Some held) name = IsSome (held name)

-- a start chooses the file at its first byte
abbrev pub Starts : Option Holding → List ℕ → Option (List ℕ) → Type 0
Starts None name left = Unit {0}
Starts (Some held) name left = IsSome (held name) × (left ≡ held name)

-- a read puts the next bytes at the buffer's front; none into a buffer with room is the end
pub record TakesNext (old : List ℕ) (new : Option (List ℕ)) (count : ℕ) (buf : List ℕ) : Type 0 where
  pub within : count ≤ length old
  pub bytes : take count buf ≡ take count old
  pub rest : new ≡ Some (drop count old)
  pub end : count ≡ 0 → 0 < length buf → old ≡ []

-- a read takes the next bytes of what is left of a file, where that is known; else nothing is said of it
abbrev pub Reads : Option (List ℕ) → Option (List ℕ) → ℕ → List ℕ → Type 0
Reads None new count buf = Unit {0}
Reads (Some old) new count buf = TakesNext old new count buf

-- what is left of a file whose first bytes are these
abbrev pub LeftOf : Option (List ℕ) → List ℕ → Option (List ℕ) → Type 0
LeftOf None front left = ⊥
LeftOf (Some bytes) front None = ⊥
LeftOf (Some bytes) front (Some left) = front ++ left ≡ bytes

-- the name's first bytes are these, and this is left
abbrev pub HasRead : Option Holding → List ℕ → List ℕ → Option (List ℕ) → Type 0
HasRead None name front left = Unit {0}
HasRead (Some held) name front left = LeftOf (held name) front left

-- at most so many bytes of the name were read
pub record HasReadAtMost (held : Option Holding) (name : List ℕ) (most : ℕ) (left : Option (List ℕ)) : Type 0 where
  pub front : List ℕ
  pub few : length front ≤ most
  pub read : HasRead held name front left

-- these are the whole bytes of the name
abbrev pub Gives : Option Holding → List ℕ → List ℕ → Type 0
Gives None name bytes = Unit {0}
Gives (Some held) name bytes = held name ≡ Some bytes

-- there are bytes, and more of them than the limit
abbrev pub IsLonger : Option (List ℕ) → ℕ → Type 0
IsLonger None limit = ⊥
IsLonger (Some bytes) limit = limit < length bytes

-- the name holds more than so many bytes, where what it holds is told
abbrev pub HoldsMore : Option Holding → List ℕ → ℕ → Type 0
HoldsMore None name limit = Unit {0}
HoldsMore (Some held) name limit = IsLonger (held name) limit

-- the name is known to hold more than so many bytes
abbrev pub IsKnownToHoldMore : Option Holding → List ℕ → ℕ → Type 0
IsKnownToHoldMore None name limit = ⊥
IsKnownToHoldMore (Some held) name limit = IsLonger (held name) limit
