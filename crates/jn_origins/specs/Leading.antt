-- Whether a point has an edge to another, whatever its environment; for each point those that lead to it; and what is found once of each body.
use Rattle.std.specs.Prelude.{ℕ, zero, suc, ◌+◌, ◌<◌, ◌≡◌, ◌⊎◌, Bool, false, ◌||◌, eqb, List, [], ◌∷◌, ◌++◌, length, Option, Some, None, slice_get, slice_index_or}
use Rattle.jn_base.specs.declared.number.PointNo.{PointNo}
use Rattle.jn_points.specs.declared.leads.Edges.{Edges}
use Rattle.jn_points.specs.declared.point.Point.{Point}
use Rattle.jn_points.specs.declared.point.PointKind.{PointKind}
use Rattle.jn_points.specs.declared.program.Program.{Program}
use Rattle.jn_points.specs.Edges.{edges_of}
use Rattle.jn_points.specs.Lookup.{points_of, body_at}
use Rattle.jn_env.specs.Code.{AreKeys}
use Rattle.jn_reasons.specs.declared.causes.Cause.{Cause}
use Rattle.jn_origins.specs.declared.bodies.KnownBody.{KnownBody}
use Rattle.jn_origins.specs.Targets.{IsOf}
use Rattle.jn_points.specs.declared.point.PointKind.TheVariants.{TestInst, TestNull, Branch, Goto, Return}

-- point q of the kind leads to point p
abbrev pub leads : PointKind → ℕ → ℕ → Bool
leads (TestInst of class origin at_yes at_no) q p = eqb at_yes.0 p || eqb at_no.0 p
leads (TestNull of origin at_null at_value) q p = eqb at_null.0 p || eqb at_value.0 p
leads (Branch of at_yes at_no) q p = eqb at_yes.0 p || eqb at_no.0 p
leads (Goto to) q p = eqb to.0 p
leads (Return value) q p = false
leads kind q p = eqb (q + 1) p

abbrev pub point_list : Option PointNo → List ℕ
point_list None = []
point_list (Some p) = p.0 ∷ []

-- the points that a point's edges go to
abbrev pub edge_list : Edges → List ℕ
edge_list e = point_list e.first ++ point_list e.second

-- lists for points, to which a point is added for each of these but the one right after it
pub record AreLed (from : ℕ) (points : List ℕ) (old new : List (List ℕ)) : Type 0 where
  pub long : length new ≡ length old
  pub kept : (k x : ℕ) → IsOf x (slice_index_or old k []) → IsOf x (slice_index_or new k [])
  pub there : (k : ℕ) → k < length old → IsOf k points → (k ≡ from + 1) ⊎ IsOf from (slice_index_or new k [])

-- the points below n are in the lists of those that their edges go to, but for the one right after each
pub record AreJumpsBelow (n : ℕ) (points : List Point) (lists : List (List ℕ)) : Type 0 where
  pub long : length lists ≡ length points
  pub all : (q k : ℕ) (pt : Point) → q < n → slice_get points q ≡ Some pt → k < length points → IsOf k (edge_list (edges_of pt.kind q)) → (k ≡ q + 1) ⊎ IsOf q (slice_index_or lists k [])

abbrev pub AreJumps : List Point → List (List ℕ) → Type 0
AreJumps points lists = AreJumpsBelow (length points) points lists

-- what is found once of body b
pub record IsKnown (P : Program) (b : ℕ) (body : KnownBody) : Type 0 where
  pub keys : AreKeys P b body.keys
  pub jumps : AreJumps (points_of (body_at P b)) body.jumps

-- of the bodies below n
pub record AreKnownBelow (P : Program) (n : ℕ) (list : List KnownBody) : Type 0 where
  pub long : length list ≡ n
  pub each : (b : ℕ) (body : KnownBody) → slice_get list b ≡ Some body → IsKnown P b body

abbrev pub AreKnown : Program → List KnownBody → Type 0
AreKnown P list = AreKnownBelow P (length P.bodies) list

-- of the number before this one
abbrev pub previous : (ℕ → List Cause) → ℕ → List Cause
previous f zero = []
previous f (suc n) = f n
