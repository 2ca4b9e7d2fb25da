-- Definite assignment as a dataflow problem: for each register whether some path comes without a write of it (JLS 8, 14.21 and 16).
use Rattle.std.specs.Prelude.{ℕ, ◌+◌, ◌≡◌, ◌<◌, ◌↔◌, Bool, true, false, cond, eqb, ltb, List, [], ◌∷◌, ◌++◌, length, get_or, replicate, slice_set, Option, Some, None}
use Rattle.jn_base.specs.declared.number.PointNo.{PointNo}
use Rattle.jn_points.specs.declared.leads.Edges.{Edges}
use Rattle.jn_points.specs.declared.point.Point.{Point}
use Rattle.jn_points.specs.declared.program.Program.{Program}
use Rattle.jn_points.specs.Edges.{edges_at}
use Rattle.jn_points.specs.Lookup.{points_of, regs_of, body_at, point_at}
use Rattle.jn_points.specs.Shaped.{writes}
use Rattle.jn_points.specs.Paths.{Reached, Lacks}
use Rattle.jn_dataflow.specs.Problem.{Problem, slot_at}
use Rattle.jn_env.specs.Packed.{either_bits}

-- how many bits are set
abbrev pub bits_on : List Bool → ℕ
bits_on [] = 0
bits_on (x ∷ xs) = cond x 1 0 + bits_on xs

-- the bits, without that of a register that is written
abbrev pub clear : Option ℕ → List Bool → List Bool
clear None bits = bits
clear (Some r) bits = slice_set bits r false

-- after a point the register that it writes lacks nothing
abbrev pub behind : Option Point → List Bool → List Bool
behind None bits = bits
behind (Some pt) bits = clear (writes pt.kind) bits

-- an edge to a point that is there
abbrev pub edge_to : ℕ → Option PointNo → List Bool → List (ℕ × List Bool)
edge_to n None bits = []
edge_to n (Some to) bits = cond (ltb to.0 n) ((to.0, bits) ∷ []) []

-- the edges of a point that stay in the body
abbrev pub edges_to : ℕ → Edges → List Bool → List (ℕ × List Bool)
edges_to n to bits = edge_to n to.first bits ++ edge_to n to.second bits

-- at the entry each register lacks a write; where paths meet one does that lacks it on one of them
abbrev pub lacking : Program → ℕ → Problem (List Bool)
lacking P b = record {
  count = length (points_of (body_at P b));
  entry = replicate (regs_of (body_at P b)) true;
  edges = λ p bits. edges_to (length (points_of (body_at P b))) (edges_at (point_at P b p) p) (behind (point_at P b p) bits);
  join = either_bits;
  weight = bits_on;
  top = regs_of (body_at P b);
  valid = λ bits. eqb (length bits) (regs_of (body_at P b));
}

-- some path comes to the point
abbrev pub is_reached : Option (List Bool) → Bool
is_reached None = false
is_reached (Some bits) = true

-- some path comes to the point without a write of the register
abbrev pub is_lacking : Option (List Bool) → ℕ → Bool
is_lacking None r = false
is_lacking (Some bits) r = get_or bits r false

-- a place for each point of a body: whether some path comes to it, and for each register whether one without a write does
pub record TellsLacking (P : Program) (b : ℕ) (t : List (Option (List Bool))) : Type 0 where
  pub long : length t ≡ length (points_of (body_at P b))
  pub reached : (p : ℕ) → p < length (points_of (body_at P b)) → (is_reached (slot_at t p) ≡ true) ↔ Reached P b p
  pub lacking : (r p : ℕ) → r < regs_of (body_at P b) → p < length (points_of (body_at P b)) → (is_lacking (slot_at t p) r ≡ true) ↔ Lacks P b r p
