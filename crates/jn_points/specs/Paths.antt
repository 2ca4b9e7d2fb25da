-- Paths of edges from a body's entry.
use Rattle.std.specs.Prelude.{ℕ, ◌≡◌, List, [], ◌∷◌, Some}
use Rattle.jn_points.specs.declared.point.Point.{Point}
use Rattle.jn_points.specs.declared.program.Program.{Program}
use Rattle.jn_points.specs.Edges.{edges_of}
use Rattle.jn_points.specs.Lookup.{point_at}
use Rattle.jn_points.specs.Shaped.{LeadsTo, writes}

module _ (P : Program) (b : ℕ) where
  -- point q is there and has an edge to point p
  pub record Step (q p : ℕ) : Type 0 where
    pub pt : Point
    pub there : point_at P b q ≡ Some pt
    pub leads : LeadsTo (edges_of pt.kind q) p

  -- the points that a path passes before it comes to p, the last of them first
  abbrev pub Path : List ℕ → ℕ → Type 0
  Path [] p = p ≡ 0
  Path (q ∷ qs) p = Step q p × Path qs q

  -- some path comes to p
  pub record Reached (p : ℕ) : Type 0 where
    pub past : List ℕ
    pub path : Path past p

  -- no point that stands at q writes register r
  abbrev pub NotWritten : ℕ → ℕ → Type 0
  NotWritten r q = (pt : Point) → point_at P b q ≡ Some pt → writes pt.kind ≡ Some r → ⊥

  -- no point among them writes the register
  abbrev pub Avoids : ℕ → List ℕ → Type 0
  Avoids r [] = Unit {0}
  Avoids r (q ∷ qs) = NotWritten r q × Avoids r qs

  -- some path comes to p on which no point writes the register (JLS 8, 16)
  pub record Lacks (r p : ℕ) : Type 0 where
    pub past : List ℕ
    pub path : Path past p
    pub avoids : Avoids r past
