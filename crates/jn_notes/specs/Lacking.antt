-- What the rule of a row found lacking.
use Rattle.std.specs.Prelude.{ℕ, ◌≡◌, ◌<◌, true, false, List, [], length, Some, slice_index_or}
use Rattle.std.specs.List.{Contains}
use Rattle.jn_base.specs.declared.place.Row.{Row}
use Rattle.jn_quals.specs.Qualifier.{Qualifier}
use Rattle.jn_points.specs.declared.point.Point.{Point}
use Rattle.jn_points.specs.declared.program.Program.{Program}
use Rattle.jn_points.specs.Lookup.{body_at, point_at, points_of}
use Rattle.jn_env.specs.Environment.{Env}
use Rattle.jn_env.specs.Order.{Table, env_in, qual_at}
use Rattle.jn_transfer.specs.Rules.{rows_at}
use Rattle.jn_reasons_law.specs.declared.item.Item.{Item}
use Rattle.jn_reasons_law.specs.declared.item.Item.TheVariants.{AtRegister}
use Rattle.jn_reasons_law.specs.Items.{on}
use Rattle.jn_notes.specs.Asked.{same_span}
use Rattle.jn_notes.specs.Asks.{Ask, asks}
use Rattle.jn_notes.specs.declared.reads.Sought.{Sought}

-- the value stands where it is sought and has the bit, which isn't taken
pub record IsRefused (q : Sought) (e : Env) (a : Ask) : Type 0 where
  pub there : same_span a.value.span q.span ≡ true
  pub has : on q.bit (qual_at e a.value.reg.0) ≡ true
  pub lacks : on q.bit a.taken ≡ false

module _ (P : Program) (s : List Qualifier) (tables : List Table) where
  -- a point of a body that is reached
  pub record IsAt (body point : ℕ) (at : Point) (e : Env) : Type 0 where
    pub there : point_at P body point ≡ Some at
    pub reached : env_in (slice_index_or tables body []) point ≡ Some e

  -- the rule has the row at a point since it doesn't take the bit that a value has there, and the item is that value's register with that bit
  pub record IsLacking (row : Row) (q : Sought) (x : Item) : Type 0 where
    pub body : ℕ
    pub point : ℕ
    pub at : Point
    pub env : Env
    pub ask : Ask
    pub stands : IsAt body point at env
    pub asked : Contains (asks P s q.rule body env at.kind) ask
    pub refused : IsRefused q env ask
    pub broken : Contains (rows_at P s body at (Some env)) row
    pub is : x ≡ AtRegister body point ask.value.reg.0 q.bit

  -- the bit is taken wherever the rule asks something of a value that has it
  abbrev pub TakesAll : Sought → Type 0
  TakesAll q = (body point : ℕ) (at : Point) (e : Env) (a : Ask) → body < length P.bodies → point < length (points_of (body_at P body)) → IsAt body point at e
      → Contains (asks P s q.rule body e at.kind) a → IsRefused q e a → ⊥
