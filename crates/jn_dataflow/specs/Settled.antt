-- Tables in which some points wait for their edges to be joined, what holds of all others, and where blocks start.
use Rattle.std.specs.Prelude.{ℕ, ◌≡◌, ◌≤◌, ◌<◌, ◌+◌, ◌⊎◌, Bool, true, false, not, cond, ◌&&◌, ◌==◌, IsTrue, List, [], ◌∷◌, length, Option, Some, None, slice_index_or, slice_set}
use Rattle.jn_dataflow.specs.Problem.{Problem, IsAmong, slot_at}
use Rattle.jn_dataflow.specs.Solution.{Arises, Absorbs}

-- whether the edges of a point are still to be joined
abbrev pub waits : List Bool → ℕ → Bool
waits w p = slice_index_or w p false

-- whether a block starts at a point; all others are inner points
abbrev pub begins : List Bool → ℕ → Bool
begins s p = slice_index_or s p false

-- whether a block goes on after a point that has these edges: there is just one, to the next point, which is an inner one
abbrev pub goes_on : {E : Type 0} → ℕ → List Bool → List (ℕ × E) → Bool
goes_on at s [] = false
goes_on at s (x ∷ []) = (x.0 == at + 1) && not (begins s x.0)
goes_on at s (x ∷ y ∷ xs) = false

-- a slot after an environment came to it
abbrev pub join_slot : {E : Type 0} → Problem E → Option E → E → Option E
join_slot d None e = Some e
join_slot d (Some a) e = Some (d.join a e)

-- the table after an edge was joined
abbrev pub flow_in : {E : Type 0} → Problem E → ℕ × E → List (Option E) → List (Option E)
flow_in d x t = slice_set t x.0 (join_slot d (slot_at t x.0) x.1)

-- the edges of a point; none where it is unreached
abbrev pub edges_from : {E : Type 0} → Problem E → ℕ → Option E → List (ℕ × E)
edges_from d p None = []
edges_from d p (Some e) = d.edges p e

abbrev pub SlotValid : {E : Type 0} → Problem E → Option E → Type 0
SlotValid d None = Unit {0}
SlotValid d (Some e) = IsTrue (d.valid e)

abbrev pub slot_weight : {E : Type 0} → Problem E → Option E → ℕ
slot_weight d None = 0
slot_weight d (Some e) = 1 + d.weight e

-- the weights of the environments where blocks start, and one for each
abbrev pub weight : {E : Type 0} → Problem E → List Bool → List (Option E) → ℕ
weight d [] t = 0
weight d (c ∷ s) [] = 0
weight d (c ∷ s) (o ∷ t) = cond c (slot_weight d o) 0 + weight d s t

-- an edge that may be joined
pub record Carried {E : Type 0} (d : Problem E) (x : ℕ × E) : Type 0 where
  pub target : x.0 < d.count
  pub valid : IsTrue (d.valid x.1)
  pub arises : Arises d x.0 x.1

-- the edges of all points that do not wait are joined, or among those that are to be joined next
pub record Settled {E : Type 0} (d : Problem E) (todo : List (ℕ × E)) (t : List (Option E)) (w : List Bool) : Type 0 where
  pub table : length t ≡ d.count
  pub long : length w ≡ d.count
  pub valid : (p : ℕ) (e : E) → slot_at t p ≡ Some e → IsTrue (d.valid e)
  pub entry : Absorbs d (slot_at t 0) d.entry
  pub edges : (p : ℕ) (e : E) → slot_at t p ≡ Some e → waits w p ≡ false → (x : ℕ × E) → IsAmong x (d.edges p e) → Absorbs d (slot_at t x.0) x.1 ⊎ IsAmong x todo
  pub arises : (p : ℕ) (e : E) → slot_at t p ≡ Some e → Arises d p e
  pub carried : (x : ℕ × E) → IsAmong x todo → Carried d x

-- and no edge comes to an inner point but from the point before it
pub record Blocks {E : Type 0} (d : Problem E) (todo : List (ℕ × E)) (t : List (Option E)) (w s : List Bool) : Type 0 where
  pub settled : Settled d todo t w
  pub long : length s ≡ d.count
  pub alone : (p : ℕ) (e : E) → slot_at t p ≡ Some e → waits w p ≡ false → (x : ℕ × E) → IsAmong x (d.edges p e) → (begins s x.0 ≡ true) ⊎ (x.0 ≡ p + 1) ⊎ IsAmong x todo

-- what a step makes of a table, and whether that is another one
pub record Stepped {E : Type 0} (wanted old new : List (Option E)) (changed : Bool) : Type 0 where
  pub made : new ≡ wanted
  pub same : changed ≡ false → new ≡ old
  pub other : changed ≡ true → new ≡ old → ⊥

-- the environments where blocks start grew, and are heavier where one of them rose
pub record Raised {E : Type 0} (d : Problem E) (t u : List (Option E)) (s z : List Bool) (rose : Bool) : Type 0 where
  pub lighter : weight d s t ≤ weight d z u
  pub heavier : rose ≡ true → weight d s t < weight d z u

-- all edges of the points that do not wait are joined
pub record Swept {E : Type 0} (d : Problem E) (t u : List (Option E)) (v s z : List Bool) (rose : Bool) : Type 0 where
  pub blocks : Blocks d [] u v z
  pub raised : Raised d t u s z rose

-- and where none of these environments rose, nobody waits anew
pub record Ended {E : Type 0} (d : Problem E) (t u : List (Option E)) (w v s z : List Bool) (rose : Bool) : Type 0 where
  pub swept : Swept d t u v s z rose
  pub quiet : rose ≡ false → v ≡ w

abbrev pub NobodyBefore : ℕ → List Bool → Type 0
NobodyBefore at w = (p : ℕ) → p < at → waits w p ≡ false

-- and where no block's start rose, this point does not wait, nor does one before it anew
pub record Visited {E : Type 0} (d : Problem E) (at : ℕ) (t u : List (Option E)) (w v s z : List Bool) (rose : Bool) : Type 0 where
  pub swept : Swept d t u v s z rose
  pub gone : rose ≡ false → NobodyBefore at w → NobodyBefore (at + 1) v

abbrev pub NobodyWaits : List Bool → Type 0
NobodyWaits w = (p : ℕ) → waits w p ≡ false
