-- A fact that something made void: a test of a field or an assignment to it made it known that the field isn't null, a point after it ended that, and the
-- field was read while it wasn't known again.
use Rattle.std.specs.Prelude.{ℕ, ◌≡◌, ◌<◌, ◌≤◌, ◌⊎◌, Bool, true, false, List, [], map, Option, Some, None}
use Rattle.jn_quals.specs.Qualifier.{Qualifier}
use Rattle.jn_points.specs.declared.point.Origin.{Origin}
use Rattle.jn_points.specs.declared.point.Point.{Point}
use Rattle.jn_points.specs.declared.point.PointKind.{PointKind}
use Rattle.jn_points.specs.declared.point.PointKind.TheVariants.{FieldWrite}
use Rattle.jn_points.specs.declared.program.Program.{Program}
use Rattle.jn_points.specs.Lookup.{point_at}
use Rattle.jn_points.specs.Operands.{origin_in}
use Rattle.jn_env.specs.Environment.{Env}
use Rattle.jn_env.specs.Keys.{Key, fact_keys, is_key, is_on}
use Rattle.jn_env.specs.Order.{Table, env_in}
use Rattle.jn_transfer.specs.Transfer.{transfer}
use Rattle.jn_dataflow.specs.Problem.{IsAmong}
use Rattle.jn_voided.specs.declared.course.Passed.{Passed}
use Rattle.jn_voided.specs.declared.course.Way.{Way}
use Rattle.jn_voided.specs.declared.search.Voided.{Voided}

-- ---- the course of a fact: whether it is known before a point, None where the point is unreached, and the edges from there, each with whether it is known
-- after the point

-- the first point is the last source on a way to the second: the fact is as wanted, known or not, on an edge of it, and has been so since, on each edge
-- and before each point up to the second
pub data Since (at : ℕ → Passed) (source : ℕ → Bool) (wanted : Bool) (from : ℕ) : ℕ → Type 0 where
  turned : (p : ℕ) → source from ≡ true → IsAmong (record { to = p; known = wanted }) (at from).ways → (at p).known ≡ Some wanted → Since at source wanted from p
  kept : (q p : ℕ) → Since at source wanted from q → source q ≡ false → IsAmong (record { to = p; known = wanted }) (at q).ways → (at p).known ≡ Some wanted → Since at source wanted from p

-- the fact is known before a point
abbrev pub is_known : Option Bool → Bool
is_known None = false
is_known (Some known) = known

-- ---- the fact on a field of the object in a register, in a table of a body

-- a value was read from this field of the object in this register
abbrev pub is_of : Key → Option Origin → Bool
is_of k None = false
is_of k (Some og) = is_key k.reg k.field (record { reg = og.reg.0; field = og.field.0 })

-- the field and the register of a write, or else of what a test's value was read from, are these
abbrev pub makes_by : Key → PointKind → Bool
makes_by k (FieldWrite object field value) = is_key k.reg k.field (record { reg = object.reg.0; field = field.0 })
makes_by k kind = is_of k (origin_in kind)

-- a point tests a value that was read from this field of the object in this register, or writes the field: where it is known after that that the field
-- isn't null, this point makes it known
abbrev pub makes : Key → Option Point → Bool
makes k None = false
makes k (Some pt) = makes_by k pt.kind

module _ (P : Program) (s : List Qualifier) (b : ℕ) (k : Key) where
  -- the environment has the fact that the field isn't null
  abbrev pub knows : Env → Bool
  knows e = is_on (is_key k.reg k.field) (fact_keys P b) e.facts

  -- an edge, by the point that it goes to and whether the fact is known on it
  abbrev pub way : ℕ × Env → Way
  way x = record { to = x.0; known = knows x.1 }

  -- a point, where it is reached
  abbrev pub passed_at : ℕ → Option Point → Option Env → Passed
  passed_at p None e = record { known = None; ways = [] }
  passed_at p (Some pt) None = record { known = None; ways = [] }
  passed_at p (Some pt) (Some e) = record { known = Some (knows e); ways = map way (transfer P s b pt.kind p e) }

module _ (P : Program) (s : List Qualifier) (b : ℕ) (t : Table) (k : Key) where
  -- what the body's table says of the fact at each point, and on the edges from there
  abbrev pub course : ℕ → Passed
  course p = passed_at P s b k p (point_at P b p) (env_in t p)

  -- the points that make the fact known where it is known after them
  abbrev pub makers : ℕ → Bool
  makers p = makes k (point_at P b p)

  -- the points before which the fact is known
  abbrev pub knowers : ℕ → Bool
  knowers p = is_known (course p).known

  -- a point made the fact, as the last that did, and it was known from there up to another; that ended it, and it isn't known from there up to the read
  pub record IsVoided (read made ended : ℕ) : Type 0 where
    pub known : Since course makers true made ended
    pub unknown : Since course knowers false ended read

  -- the first of these: of the least point that ends the fact the least that made it, by the numbers of points
  pub record IsFirstVoided (read made ended : ℕ) : Type 0 where
    pub is : IsVoided read made ended
    pub first : (other end : ℕ) → IsVoided read other end → (ended < end) ⊎ ((ended ≡ end) × (made ≤ other))

  -- the first, or none where there is none
  abbrev pub IsFound : ℕ → Option Voided → Type 0
  IsFound read None = (made ended : ℕ) → IsVoided read made ended → ⊥
  IsFound read (Some v) = IsFirstVoided read v.made.0 v.ended.0
