-- A program with a signature and a table for each body.
use Rattle.std.specs.Prelude.{ℕ, List, [], Option, slice_index_or}
use Rattle.jn_quals.specs.Qualifier.{Qualifier}
use Rattle.jn_points.specs.declared.program.Program.{Program}
use Rattle.jn_points.specs.Lookup.{slots_of, method_at}
use Rattle.jn_sigs.specs.Signature.{slot_quals}
use Rattle.jn_env.specs.Environment.{Env}
use Rattle.jn_env.specs.Order.{env_in}

pub record World : Type 0 where
  pub program : Program
  pub sig : List Qualifier
  pub tables : List (List (Option Env))

module _ (W : World) where
  abbrev pub table_at : ℕ → List (Option Env)
  table_at b = slice_index_or W.tables b []

  abbrev pub env_at : ℕ → ℕ → Option Env
  env_at b p = env_in (table_at b) p

  abbrev pub param_quals : ℕ → List Qualifier
  param_quals m = slot_quals W.sig (slots_of (method_at W.program m))
