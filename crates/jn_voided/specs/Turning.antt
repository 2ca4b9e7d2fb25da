-- Where a fact turned, as a dataflow problem: what comes to a point is the least source that is the last on a way there, and since which the fact is as
-- wanted.
use Rattle.std.specs.Prelude.{ℕ, ◌+◌, ◌-◌, ◌≡◌, ◌≤◌, Bool, true, false, not, ◌&&◌, cond, ltb, List, [], ◌∷◌, ◌++◌, flat_map, Option, Some, None}
use Rattle.jn_dataflow.specs.Problem.{Problem, slot_at}
use Rattle.jn_voided.specs.declared.course.Passed.{Passed}
use Rattle.jn_voided.specs.declared.course.Way.{Way}
use Rattle.jn_voided.specs.Voided.{Since}

abbrev pub as_wanted : Bool → Bool → Bool
as_wanted true known = known
as_wanted false known = not known

-- the lesser of two numbers, where there are two
abbrev pub least : Option ℕ → Option ℕ → Option ℕ
least None y = y
least (Some x) None = Some x
least (Some x) (Some y) = Some (cond (ltb y x) y x)

abbrev pub weight_of : ℕ → Option ℕ → ℕ
weight_of n None = 0
weight_of n (Some x) = n - x

abbrev pub is_below : ℕ → Option ℕ → Bool
is_below n None = true
is_below n (Some x) = ltb x n

-- what is handed to a point that is there
abbrev pub handed_to : ℕ → ℕ → Option ℕ → List (ℕ × Option ℕ)
handed_to n p from = cond (ltb p n) ((p, from) ∷ []) []

-- what a point hands on: itself where it is a source, else what came to it
abbrev pub handed : (ℕ → Bool) → ℕ → Option ℕ → Option ℕ
handed source p from = cond (source p) (Some p) from

-- what comes along an edge after whose point, and before whose target, the fact is as wanted
abbrev pub arriving : Bool → Bool → Option Bool → Option ℕ → Option ℕ
arriving wanted known None from = None
arriving wanted known (Some there) from = cond (as_wanted wanted known && as_wanted wanted there) from None

abbrev pub along : ℕ → (ℕ → Passed) → Bool → Option ℕ → Way → List (ℕ × Option ℕ)
along n at wanted from way = handed_to n way.to (arriving wanted way.known (at way.to).known from)

-- and nothing is handed to the next point, so that each is come to
abbrev pub turning_edges : ℕ → (ℕ → Passed) → (ℕ → Bool) → Bool → ℕ → Option ℕ → List (ℕ × Option ℕ)
turning_edges n at source wanted p from = handed_to n (p + 1) None ++ flat_map (along n at wanted (handed source p from)) (at p).ways

abbrev pub turning : ℕ → (ℕ → Passed) → (ℕ → Bool) → Bool → Problem (Option ℕ)
turning n at source wanted = record {
  count = n;
  entry = None;
  edges = turning_edges n at source wanted;
  join = least;
  weight = weight_of n;
  top = n;
  valid = is_below n;
}

-- what stands at a point of a solution; None where it is unreached
abbrev pub turn_in : Option (Option ℕ) → Option ℕ
turn_in None = None
turn_in (Some from) = from

abbrev pub turn_at : List (Option (Option ℕ)) → ℕ → Option ℕ
turn_at turns p = turn_in (slot_at turns p)

-- there is a number, and it is no greater
abbrev pub IsAtMost : Option ℕ → ℕ → Type 0
IsAtMost None k = ⊥
IsAtMost (Some m) k = m ≤ k

-- the least source that is the last on a way to a point, and none where there is none
pub record TellsTurns (at : ℕ → Passed) (source : ℕ → Bool) (wanted : Bool) (turns : List (Option (Option ℕ))) : Type 0 where
  pub is : (p from : ℕ) → turn_at turns p ≡ Some from → Since at source wanted from p
  pub first : (from p : ℕ) → Since at source wanted from p → IsAtMost (turn_at turns p) from
