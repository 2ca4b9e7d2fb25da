-- A body with a table of it, and the points that lead to one of its points.
use Rattle.std.specs.Prelude.{ℕ, ◌≡◌, ◌<◌, ◌^◌, List, [], length, slice_index_or}
use Rattle.jn_quals.specs.Qualifier.{Qualifier}
use Rattle.jn_points.specs.declared.point.Point.{Point}
use Rattle.jn_points.specs.declared.program.Program.{Program}
use Rattle.jn_points.specs.Lookup.{points_of, body_at}
use Rattle.jn_env.specs.Order.{Table}
use Rattle.jn_env.specs.Sized.{Sized}
use Rattle.jn_transfer.specs.Sized.{StaysInside}
use Rattle.jn_origins.specs.Leading.{AreJumps}

-- a body of a program under a signature, with a table
pub record TabledBody : Type 0 where
  pub program : Program
  pub sig : List Qualifier
  pub body : ℕ
  pub table : Table

abbrev pub tabled_by : Program → List Qualifier → ℕ → Table → TabledBody
tabled_by P s b T = record { program = P; sig = s; body = b; table = T }

-- the body is there, its edges stay in it, and the table has its environments; these are its points, and those that lead to each
pub record IsTabled (P : Program) (b : ℕ) (T : Table) (points : List Point) (jumps : List (List ℕ)) : Type 0 where
  pub inside : b < length P.bodies
  pub stays : StaysInside P b
  pub short : length points < 2 ^ 32
  pub are : points ≡ points_of (body_at P b)
  pub sized : Sized P b T
  pub leading : AreJumps (points_of (body_at P b)) jumps

-- they lead to point p, and no others do but the one right before it
pub record LeadTo (t : TabledBody) (p : ℕ) (points : List ℕ) : Type 0 where
  pub lists : List (List ℕ)
  pub jumps : AreJumps (points_of (body_at t.program t.body)) lists
  pub are : points ≡ slice_index_or lists p []
