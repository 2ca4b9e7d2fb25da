-- Dataflow problems: environments that form a semilattice of bounded height, and edges that carry them on (Kildall, POPL 1973; Nielson, Nielson and Hankin, Principles of Program Analysis, chapter 2).
use Rattle.std.specs.Prelude.{ℕ, ◌≡◌, ◌≤◌, ◌<◌, ◌⊎◌, Bool, IsTrue, List, [], ◌∷◌, Option, None, slice_index_or}

-- what stands at a point of a table; None where it is unreached
abbrev pub slot_at : {E : Type 0} → List (Option E) → ℕ → Option E
slot_at t p = slice_index_or t p None

-- an item of the list: the proof says which position it has there
abbrev pub IsAmong : {A : Type 0} → A → List A → Type 0
IsAmong x [] = ⊥
IsAmong x (y ∷ ys) = (x ≡ y) ⊎ IsAmong x ys

-- a dataflow problem: its points and their edges, what is known at the entry, and how what is known along two ways is joined
pub record Problem (E : Type 0) : Type 0 where
  -- how many points there are; point 0 is the entry
  pub count : ℕ
  -- what is known at the entry
  pub entry : E
  -- for each edge of a point its target and what is known after it
  pub edges : ℕ → E → List (ℕ × E)
  -- what is known where two environments meet
  pub join : E → E → E
  -- rises with each join that changes something
  pub weight : E → ℕ
  -- the greatest weight
  pub top : ℕ
  -- the environments that occur
  pub valid : E → Bool

-- valid environments are closed under edges and joins, joins are those of a semilattice, and no weight is above the top
pub record IsLawful {E : Type 0} (d : Problem E) : Type 0 where
  pub starts : IsTrue (d.valid d.entry)
  pub inside : (p : ℕ) (e : E) (x : ℕ × E) → p < d.count → IsTrue (d.valid e) → IsAmong x (d.edges p e) → x.0 < d.count
  pub carries : (p : ℕ) (e : E) (x : ℕ × E) → p < d.count → IsTrue (d.valid e) → IsAmong x (d.edges p e) → IsTrue (d.valid x.1)
  pub joins : (a b : E) → IsTrue (d.valid a) → IsTrue (d.valid b) → IsTrue (d.valid (d.join a b))
  pub same : (a : E) → IsTrue (d.valid a) → d.join a a ≡ a
  pub swap : (a b : E) → IsTrue (d.valid a) → IsTrue (d.valid b) → d.join a b ≡ d.join b a
  pub group : (a b c : E) → IsTrue (d.valid a) → IsTrue (d.valid b) → IsTrue (d.valid c) → d.join (d.join a b) c ≡ d.join a (d.join b c)
  pub rises : (a b : E) → IsTrue (d.valid a) → IsTrue (d.valid b) → (d.join a b ≡ a → ⊥) → d.weight a < d.weight (d.join a b)
  pub bounded : (a : E) → IsTrue (d.valid a) → d.weight a ≤ d.top
