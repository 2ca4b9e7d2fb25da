-- What is known of a body's registers and fields, as a dataflow problem: a solution is the least table.
use Rattle.std.specs.Prelude.{ℕ, ◌+◌, ◌*◌, Bool, ◌&&◌, eqb, List, [], length, Option, Some, None}
use Rattle.jn_quals.specs.Qualifier.{Qualifier}
use Rattle.jn_points.specs.declared.point.Point.{Point}
use Rattle.jn_points.specs.declared.program.Program.{Program}
use Rattle.jn_points.specs.Lookup.{points_of, regs_of, body_at, point_at}
use Rattle.jn_env.specs.Environment.{Env}
use Rattle.jn_env.specs.Keys.{fact_keys, own_keys}
use Rattle.jn_env.specs.Order.{join_env}
use Rattle.jn_env.specs.Weight.{quals_weight, bits_weight}
use Rattle.jn_transfer.specs.Transfer.{transfer, entry_env}
use Rattle.jn_dataflow.specs.Problem.{Problem}

-- the environment is of the body
abbrev pub is_sized : Program → ℕ → Env → Bool
is_sized P b e = eqb (length e.quals) (regs_of (body_at P b)) && (eqb (length e.facts) (length (fact_keys P b)) && eqb (length e.assigned) (length (own_keys P b)))

-- the edges of a point; none of one that is not there
abbrev pub edges_after : Program → List Qualifier → ℕ → Option Point → ℕ → Env → List (ℕ × Env)
edges_after P s b None p e = []
edges_after P s b (Some pt) p e = transfer P s b pt.kind p e

-- the top is the number of bits of an environment: three for a register, one for a fact and for an own field
abbrev pub qualifiers : Program → List Qualifier → ℕ → Problem Env
qualifiers P s b = record {
  count = length (points_of (body_at P b));
  entry = entry_env P s b;
  edges = λ p e. edges_after P s b (point_at P b p) p e;
  join = join_env;
  weight = λ e. quals_weight e.quals + bits_weight e.facts + bits_weight e.assigned;
  top = 3 * regs_of (body_at P b) + length (fact_keys P b) + length (own_keys P b);
  valid = is_sized P b;
}
