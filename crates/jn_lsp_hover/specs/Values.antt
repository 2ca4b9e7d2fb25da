-- What a value may be where it stands, by the tables of all bodies.
use Rattle.std.specs.Prelude.{ℕ, cond, List, [], ◌∷◌, Option, Some, None, slice_index_or}
use Rattle.jn_env.specs.Environment.{Env}
use Rattle.jn_env.specs.Order.{Table, env_in, qual_at}
use Rattle.jn_points.specs.declared.point.Point.{Point}
use Rattle.jn_points.specs.declared.program.Program.{Program}
use Rattle.jn_points.specs.Lookup.{is_ref_base, point_at, reg_base}
use Rattle.jn_quals.specs.Qualifier.{Qualifier}
use Rattle.jn_transfer.specs.Transfer.{transfer}
use Rattle.jn_lsp_hover.specs.declared.spot.Spot.{Spot}

-- of a register along the edges of a point, the first
abbrev pub qual_along : ℕ → List (ℕ × Env) → Option Qualifier
qual_along r [] = None
qual_along r (edge ∷ edges) = Some (qual_at edge.1 r)

module _ (P : Program) (s : List Qualifier) where
  -- of a register that a point makes, after it: what makes one has one edge
  abbrev pub qual_after : ℕ → ℕ → ℕ → Env → Option Point → Option Qualifier
  qual_after b p r e None = None
  qual_after b p r e (Some pt) = qual_along r (transfer P s b pt.kind p e)

  -- before the point where it is read, after it where it is made
  abbrev pub qual_by : Spot → Env → Option Qualifier
  qual_by spot e = cond spot.is_made (qual_after spot.body spot.point spot.reg e (point_at P spot.body spot.point)) (Some (qual_at e spot.reg))

  -- the same at a point that may not be reached
  abbrev pub qual_where : Spot → Option Env → Option Qualifier
  qual_where spot None = None
  qual_where spot (Some e) = qual_by spot e

  -- a value of reference type, where its point is reached
  abbrev pub qual_of : List Table → Spot → Option Qualifier
  qual_of tables spot = cond (is_ref_base (reg_base P spot.body spot.reg)) (qual_where spot (env_in (slice_index_or tables spot.body []) spot.point)) None
