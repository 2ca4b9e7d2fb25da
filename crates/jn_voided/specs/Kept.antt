-- Turns of facts that are kept.
use Rattle.std.specs.Prelude.{ℕ, ◌<◌, ◌≡◌, Bool, eqb, ◌&&◌, List, [], length, Option, Some, slice_index_or}
use Rattle.std.specs.Map.{lookup}
use Rattle.jn_quals.specs.Qualifier.{Qualifier}
use Rattle.jn_points.specs.declared.program.Program.{Program}
use Rattle.jn_env.specs.Keys.{Key}
use Rattle.jn_env.specs.Order.{Table}
use Rattle.jn_env.specs.Sized.{Sized}
use Rattle.jn_tables_law.specs.Inferable.{IsInferable}
use Rattle.jn_voided.specs.declared.search.Turned.{Turned}
use Rattle.jn_voided.specs.Searched.{IsTurned}

-- three numbers
abbrev pub Numbers : Type 0
Numbers = (ℕ × ℕ) × ℕ

-- the body, the register and the field
abbrev pub numbers_of : ℕ → Key → Numbers
numbers_of b k = ((b, k.reg), k.field)

-- they are equal, number by number
abbrev pub numbers_eq : Numbers → Numbers → Bool
numbers_eq x y = (eqb x.0.0 y.0.0 && eqb x.0.1 y.0.1) && eqb x.1 y.1

-- the turns that are kept of a fact in a body
abbrev pub turned_of : List (Numbers × Turned) → ℕ → Key → Option Turned
turned_of entries b k = lookup (numbers_eq (numbers_of b k)) entries

-- each that are kept are those of the fact in the body
abbrev pub AreTurned : Program → List Qualifier → List Table → List (Numbers × Turned) → Type 0
AreTurned P s tables entries = (b : ℕ) (k : Key) (t : Turned) → turned_of entries b k ≡ Some t → IsTurned P s b (slice_index_or tables b []) k t

-- a program, a signature, and tables of its bodies
pub record Scene : Type 0 where
  pub program : Program
  pub sig : List Qualifier
  pub tables : List Table

abbrev pub scene_by : Program → List Qualifier → List Table → Scene
scene_by P s tables = record { program = P; sig = s; tables = tables }

-- the program can be inferred, each table has environments of its body, and the turns that are kept are so
pub record IsKept (P : Program) (s : List Qualifier) (tables : List Table) (entries : List (Numbers × Turned)) : Type 0 where
  pub inferable : IsInferable P
  pub sized : (b : ℕ) → b < length P.bodies → Sized P b (slice_index_or tables b [])
  pub turned : AreTurned P s tables entries
