-- The edges of the first points of a list stay in the list.
use Rattle.std.specs.Prelude.{ℕ, ◌≡◌, ◌<◌, List, length, Some, slice_get}
use Rattle.jn_points.specs.declared.point.Point.{Point}
use Rattle.jn_points.specs.Edges.{edges_of}
use Rattle.jn_transfer.specs.Sized.{Below}

abbrev pub AllInside : List Point → ℕ → Type 0
AllInside points n = (p : ℕ) (pt : Point) → p < n → slice_get points p ≡ Some pt → Below (length points) (edges_of pt.kind p).first × Below (length points) (edges_of pt.kind p).second
