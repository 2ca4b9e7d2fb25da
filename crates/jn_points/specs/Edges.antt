-- The edges of a point: to the next point unless its kind says otherwise.
use Rattle.std.specs.Prelude.{ℕ, ◌+◌, Option, Some, None}
use Rattle.jn_base.specs.declared.number.PointNo.{PointNo}
use Rattle.jn_points.specs.declared.leads.Edges.{Edges}
use Rattle.jn_points.specs.declared.point.Point.{Point}
use Rattle.jn_points.specs.declared.point.PointKind.{PointKind}
use Rattle.jn_points.specs.declared.point.PointKind.TheVariants.{TestInst, TestNull, Branch, Goto, Return}

-- edges to two points, of which a run takes one
abbrev pub two : PointNo → PointNo → Edges
two a b = record { first = Some a; second = Some b }

-- an edge to one point
abbrev pub one : PointNo → Edges
one a = record { first = Some a; second = None }

-- no edges, as of a point that ends its body
abbrev pub no_edges : Edges
no_edges = record { first = None; second = None }

-- the points that a run of the body may come to right after the point, which stands at number p
abbrev pub edges_of : PointKind → ℕ → Edges
edges_of (TestInst of class origin at_yes at_no) p = two at_yes at_no
edges_of (TestNull of origin at_null at_value) p = two at_null at_value
edges_of (Branch of at_yes at_no) p = two at_yes at_no
edges_of (Goto to) p = one to
edges_of (Return value) p = no_edges
edges_of kind p = one (record { 0 = p + 1 })

-- the edges of the point that stands at number p, none where no point does
abbrev pub edges_at : Option Point → ℕ → Edges
edges_at None p = no_edges
edges_at (Some pt) p = edges_of pt.kind p
