-- What the calls of a source gave since it was made: names in the order of their starts, with the bytes read of each.
use Rattle.std.specs.Prelude.{ℕ, ◌+◌, ◌≤◌, ◌≡◌, ◌⊎◌, List, [], ◌∷◌, ◌++◌, length, take, Option, Some, None}
use Rattle.jn_outside.specs.declared.given.Given.{Given}
use Rattle.jn_outside.specs.Files.{Holding}

-- what calls gave of one start: the name, and the bytes that were read of it
abbrev pub given : List ℕ → List ℕ → Given
given name bytes = record { name = name; bytes = bytes }

-- a start adds its name, with no byte yet
abbrev pub with_start : List Given → List ℕ → List Given
with_start gave name = gave ++ given name [] ∷ []

-- a read adds its bytes to the name that was started last; before any start there is none
abbrev pub with_read : List Given → List ℕ → List Given
with_read [] bytes = []
with_read (last ∷ []) bytes = given last.name (last.bytes ++ bytes) ∷ []
with_read (first ∷ next ∷ others) bytes = first ∷ with_read (next ∷ others) bytes

-- reads gave these bytes, at most so many, after those of the name that was started last
pub record GivesBehind (old new : List Given) (room : ℕ) (more : List ℕ) : Type 0 where
  pub few : length more ≤ room
  pub gave : new ≡ with_read old more

-- there are bytes, and the first of them are these
abbrev pub BeginsWith : Option (List ℕ) → List ℕ → Type 0
BeginsWith None front = ⊥
BeginsWith (Some bytes) front = take (length front) bytes ≡ front

-- what the name holds begins with these bytes, where it is told
abbrev pub Begins : Option Holding → List ℕ → List ℕ → Type 0
Begins None name front = Unit {0}
Begins (Some held) name front = BeginsWith (held name) front

-- of the name one byte more than the limit was given, from its first byte on
pub record GivesTooMany (held : Option Holding) (name : List ℕ) (limit : ℕ) (old new : List Given) : Type 0 where
  pub front : List ℕ
  pub many : length front ≡ limit + 1
  pub first : Begins held name front
  pub gave : new ≡ old ++ given name front ∷ []

-- the name was started, and at most so many bytes were given
pub record GivesAtMost (name : List ℕ) (most : ℕ) (old new : List Given) : Type 0 where
  pub bytes : List ℕ
  pub few : length bytes ≤ most
  pub gave : new ≡ old ++ given name bytes ∷ []

-- nothing was given, not even started, or at most so many bytes of the name
abbrev pub GivesLittle : List ℕ → ℕ → List Given → List Given → Type 0
GivesLittle name most old new = (new ≡ old) ⊎ GivesAtMost name most old new
