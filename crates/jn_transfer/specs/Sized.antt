-- Bodies whose edges stay inside.
use Rattle.std.specs.Prelude.{ℕ, ◌≡◌, ◌<◌, length, Option, Some, None}
use Rattle.jn_base.specs.declared.number.PointNo.{PointNo}
use Rattle.jn_points.specs.declared.point.Point.{Point}
use Rattle.jn_points.specs.declared.program.Program.{Program}
use Rattle.jn_points.specs.Edges.{edges_of}
use Rattle.jn_points.specs.Lookup.{points_of, body_at, point_at}

abbrev pub Below : ℕ → Option PointNo → Type 0
Below n None = Unit {0}
Below n (Some to) = to.0 < n

-- a body has a point, and all edges stay in it
pub record StaysInside (P : Program) (b : ℕ) : Type 0 where
  pub some : 0 < length (points_of (body_at P b))
  pub edges : (p : ℕ) (pt : Point) → point_at P b p ≡ Some pt → Below (length (points_of (body_at P b))) (edges_of pt.kind p).first × Below (length (points_of (body_at P b))) (edges_of pt.kind p).second
