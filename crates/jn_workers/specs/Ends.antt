-- What a worker has seen, and what shares weigh.
use Rattle.std.specs.Prelude.{◌≡◌, ℕ, Bool, true, false, ◌/◌, ◌%◌, ◌<◌, ◌≤◌}
use Rattle.std.specs.Int.{bit_at}
use Rattle.jn_sigtable.specs.declared.view.View.{View}
use Rattle.jn_sigtable.specs.System.{System}
use Rattle.jn_sigtable.specs.Machine.{Has, weight}

module _ {C : Type 0} where
  -- every body of the dirty words below d has been seen clear
  abbrev pub SeenBelow : System → View C → ℕ → Type 0
  SeenBelow sys v d = (b : ℕ) → b < sys.bodies → b / 64 < d → Has v.clear b

  -- every body of the dirty word d has been seen clear, but for these bits
  abbrev pub SeenIn : System → View C → ℕ → ℕ → Type 0
  SeenIn sys v d ones = (b : ℕ) → b < sys.bodies → b / 64 ≡ d → bit_at ones (b % 64) ≡ 0 → Has v.clear b

  -- every body of the dirty word d below the place has been seen clear
  abbrev pub SeenUpTo : System → View C → ℕ → ℕ → Type 0
  SeenUpTo sys v d place = (b : ℕ) → b < sys.bodies → b / 64 ≡ d → b % 64 < place → Has v.clear b

  -- what was seen clear still is
  abbrev pub StillSeen : View C → View C → Type 0
  StillSeen v w = (b : ℕ) → Has v.clear b → Has w.clear b

  -- whether a body was taken: the count of bodies rose, or is as it was and the fact holds
  abbrev pub Took : Bool → View C → View C → Type 0 → Type 0
  Took true v w fact = v.taken < w.taken
  Took false v w fact = (w.taken ≡ v.taken) × fact

  -- no number of the share is above e
  abbrev pub IsFineAt : ℕ → View C → Type 0
  IsFineAt e v = (d : ℕ) → Has v.share d → d ≤ e

  -- the shares of the two views are of one weight
  abbrev pub WeighsAs : View C → View C → Type 0
  WeighsAs w v = (e : ℕ) → IsFineAt e w → IsFineAt e v × (weight e w ≡ weight e v)
