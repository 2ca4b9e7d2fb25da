-- Environments and tables of a body: as many qualifiers as it has registers, and bits as it has keys.
use Rattle.std.specs.Prelude.{ℕ, ◌≡◌, [], ◌∷◌, length, Some, None}
use Rattle.jn_points.specs.declared.program.Program.{Program}
use Rattle.jn_points.specs.Lookup.{regs_of, body_at}
use Rattle.jn_env.specs.Environment.{Env}
use Rattle.jn_env.specs.Order.{Table}
use Rattle.jn_env.specs.Keys.{fact_keys, own_keys}

pub record EnvSized (P : Program) (b : ℕ) (e : Env) : Type 0 where
  pub quals : length e.quals ≡ regs_of (body_at P b)
  pub facts : length e.facts ≡ length (fact_keys P b)
  pub assigned : length e.assigned ≡ length (own_keys P b)

abbrev pub Sized : Program → ℕ → Table → Type 0
Sized P b [] = Unit {0}
Sized P b (None ∷ t) = Sized P b t
Sized P b (Some e ∷ t) = EnvSized P b e × Sized P b t
