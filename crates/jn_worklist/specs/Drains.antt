-- Words and dirty bits while one thread drains them.
use Rattle.std.specs.Prelude.{◌≡◌, ◌≢◌, ◌⊎◌, ℕ, ◌<◌, Bool, true, false, List, take, length, slice_index}
use Rattle.jn_base.specs.declared.number.WordNo.{WordNo}
use Rattle.jn_sigtable.specs.System.{System, IsClosed, Within, bits_for, Covers, AgreesFor, ClosedAt, least, ones_in}
use Rattle.jn_worklist.specs.Plans.{IsDue}

-- the words lie between the start and the least words
pub record LiesBetween (sys : System) (start words : List ℕ) : Type 0 where
  pub count : length words ≡ sys.words
  pub above : Covers sys.words start words
  pub below : Covers sys.words words (least sys start)
  pub top : IsClosed sys (least sys start)

-- the body is dirty, or all that it outputs on the words stands in them
abbrev pub IsDirtyOrClosed : System → List ℕ → List ℕ → ℕ → Type 0
IsDirtyOrClosed sys words dirty b = IsDue dirty b ⊎ ClosedAt sys b words words

-- between two bodies: each is dirty or closed
pub record IsDraining (sys : System) (start words dirty : List ℕ) : Type 0 where
  pub between : LiesBetween sys start words
  pub each : (b : ℕ) → b < sys.bodies → IsDirtyOrClosed sys words dirty b

-- each body but b is dirty or closed
pub record IsDrainingBut (sys : System) (start : List ℕ) (b : ℕ) (words dirty : List ℕ) : Type 0 where
  pub between : LiesBetween sys start words
  pub others : (x : ℕ) → x < sys.bodies → x ≢ b → IsDirtyOrClosed sys words dirty x

-- within body b, whose outputs on the words `before` are `os`, and of which the first ones were raised
pub record IsWithinBody (sys : System) (start : List ℕ) (b : ℕ) (before : List ℕ) (os : List (WordNo × ℕ)) (done : ℕ) (words dirty : List ℕ) : Type 0 where
  pub first : LiesBetween sys start before
  pub between : LiesBetween sys start words
  pub others : (x : ℕ) → x < sys.bodies → x ≢ b → IsDirtyOrClosed sys words dirty x
  pub own : IsDue dirty b ⊎ AgreesFor sys b before words
  pub raised : (w : ℕ) → Within (bits_for (take done os) w) (slice_index words w)

-- whether a bit was raised: else the words are as before, and the fact holds
abbrev pub Moved : Bool → System → List ℕ → List ℕ → Type 0 → Type 0
Moved true sys words after fact = ones_in sys.words words < ones_in sys.words after
Moved false sys words after fact = (after ≡ words) × fact
