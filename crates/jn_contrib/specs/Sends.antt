-- What a body sends into inferred slots: the contributions of its reached points, one after another.
use Rattle.std.specs.Prelude.{ℕ, ◌+◌, List, [], ◌∷◌, ◌++◌, Option, Some, None}
use Rattle.jn_base.specs.declared.number.SlotNo.{SlotNo}
use Rattle.jn_quals.specs.Qualifier.{Qualifier}
use Rattle.jn_points.specs.declared.point.Point.{Point}
use Rattle.jn_points.specs.declared.program.Program.{Program}
use Rattle.jn_points.specs.Lookup.{points_of, body_at}
use Rattle.jn_env.specs.Environment.{Env}
use Rattle.jn_env.specs.Order.{Table, env_in}
use Rattle.jn_transfer.specs.Contributions.{kind_sends}

module _ (P : Program) (b : ℕ) where
  -- a point's, where it is reached
  abbrev pub point_sends : Point → Option Env → List (ℕ × Qualifier)
  point_sends pt None = []
  point_sends pt (Some e) = kind_sends P b e pt.kind

  abbrev pub sends_from : List Point → ℕ → Table → List (ℕ × Qualifier)
  sends_from [] p t = []
  sends_from (pt ∷ pts) p t = point_sends pt (env_in t p) ++ sends_from pts (p + 1) t

  -- the body's
  abbrev pub body_sends : Table → List (ℕ × Qualifier)
  body_sends t = sends_from (points_of (body_at P b)) 0 t

-- slots by their numbers
abbrev pub slot_numbers : List (SlotNo × Qualifier) → List (ℕ × Qualifier)
slot_numbers [] = []
slot_numbers (x ∷ xs) = (x.0.0, x.1) ∷ slot_numbers xs
