-- The least table of a body, by whole rounds of all edges from the entry.
use Rattle.std.specs.Prelude.{ℕ, zero, suc, ◌+◌, ◌≡◌, List, [], ◌∷◌, ◌++◌, length, replicate, Option, Some, None, slice_set}
use Rattle.jn_quals.specs.Qualifier.{Qualifier}
use Rattle.jn_points.specs.declared.point.Point.{Point}
use Rattle.jn_points.specs.declared.program.Program.{Program}
use Rattle.jn_points.specs.Lookup.{points_of, body_at, point_at}
use Rattle.jn_env.specs.Environment.{Env}
use Rattle.jn_env.specs.Order.{Table, env_in, SlotWithin, join_slot}
use Rattle.jn_transfer.specs.Transfer.{transfer, entry_env, IsAmong}

-- the table after one edge: what it carries is joined to what stands at its target
abbrev pub flow_in : ℕ × Env → Table → Table
flow_in x t = slice_set t x.0 (join_slot (env_in t x.0) x.1)

-- the table after all these edges, one by one
abbrev pub flow_all : List (ℕ × Env) → Table → Table
flow_all [] t = t
flow_all (x ∷ xs) t = flow_all xs (flow_in x t)

module _ (P : Program) (s : List Qualifier) (b : ℕ) where
  -- the edges of a point with what each carries, none where the point is unreached
  abbrev pub edges_from : Point → ℕ → Option Env → List (ℕ × Env)
  edges_from pt p None = []
  edges_from pt p (Some e) = transfer P s b pt.kind p e

  -- all edges of the reached points, from point p on
  abbrev pub all_edges : List Point → ℕ → Table → List (ℕ × Env)
  all_edges [] p t = []
  all_edges (pt ∷ pts) p t = edges_from pt p (env_in t p) ++ all_edges pts (p + 1) t

  -- one whole round
  abbrev pub round : Table → Table
  round t = flow_all (all_edges (points_of (body_at P b)) 0 t) t

  -- the table after so many whole rounds
  abbrev pub rounds : ℕ → Table → Table
  rounds zero t = t
  rounds (suc n) t = round (rounds n t)

  -- only the entry is reached
  abbrev pub start_table : Table
  start_table = slice_set (replicate (length (points_of (body_at P b))) None) 0 (Some (entry_env P s b))

  -- whole rounds until nothing changes
  pub record IsLeastTable (t : List (Option Env)) : Type 0 where
    pub turns : ℕ
    pub made : t ≡ rounds turns start_table
    pub stable : round t ≡ t

  -- the entry is covered, and each edge of a reached point stays within the table
  pub record Respects (t : List (Option Env)) : Type 0 where
    pub entry : SlotWithin (Some (entry_env P s b)) (env_in t 0)
    pub edges : (p : ℕ) (pt : Point) (e : Env) → point_at P b p ≡ Some pt → env_in t p ≡ Some e → (x : ℕ × Env) → IsAmong x (transfer P s b pt.kind p e) → SlotWithin (Some x.1) (env_in t x.0)
