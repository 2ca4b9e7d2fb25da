-- Solutions of dataflow problems: what comes to each point, and no more (Kildall, POPL 1973).
use Rattle.std.specs.Prelude.{ℕ, ◌≡◌, IsTrue, List, length, Option, Some, None}
use Rattle.jn_dataflow.specs.Problem.{Problem, IsAmong, slot_at}

-- what comes to a point: the entry's environment, what edges carry on, and joins
pub data Arises {E : Type 0} (d : Problem E) : ℕ → E → Type 0 where
  entered : Arises d 0 d.entry
  followed : (p : ℕ) (e : E) (q : ℕ) (f : E) → Arises d p e → IsAmong (q, f) (d.edges p e) → Arises d q f
  joined : (p : ℕ) (a b : E) → Arises d p a → Arises d p b → Arises d p (d.join a b)

-- a slot has all that the environment has
abbrev pub Absorbs : {E : Type 0} → Problem E → Option E → E → Type 0
Absorbs d None e = ⊥
Absorbs d (Some a) e = d.join a e ≡ a

-- the table absorbs the entry and each edge of a reached point, and each of its environments comes to its point
pub record Solves {E : Type 0} (d : Problem E) (t : List (Option E)) : Type 0 where
  pub long : length t ≡ d.count
  pub valid : (p : ℕ) (e : E) → slot_at t p ≡ Some e → IsTrue (d.valid e)
  pub entry : Absorbs d (slot_at t 0) d.entry
  pub edges : (p : ℕ) (e : E) → slot_at t p ≡ Some e → (x : ℕ × E) → IsAmong x (d.edges p e) → Absorbs d (slot_at t x.0) x.1
  pub arises : (p : ℕ) (e : E) → slot_at t p ≡ Some e → Arises d p e
