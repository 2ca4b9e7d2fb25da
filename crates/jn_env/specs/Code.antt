-- What the code's values say in the terms of the definitions.
use Rattle.std.specs.Prelude.{ℕ, ◌≡◌, Bool, true, not, eqb, Option, Some, None}
use Rattle.jn_base.specs.declared.number.FieldNo.{FieldNo}
use Rattle.jn_points.specs.declared.program.Program.{Program}
use Rattle.jn_points.specs.Lookup.{monotonic}
use Rattle.jn_env.specs.Keys.{Key, has_reg, has_key_field, is_key, fact_keys, own_keys}
use Rattle.jn_env.specs.declared.bits.Which.{Which}
use Rattle.jn_env.specs.declared.bits.Which.TheVariants.{OfReg, OfField, Exactly, Fleeting, Each}
use Rattle.jn_env.specs.declared.keys.Keys.{Keys}

-- the keys of a register, of a field, of both, of fields that aren't monotonic, or all
abbrev pub picks : Which → Key → Bool
picks (OfReg r) k = has_reg r.0 k
picks (OfField f) k = has_key_field f.0 k
picks (Exactly r f) k = is_key r.0 f.0 k
picks (Fleeting program) k = not (monotonic program.now k.field)
picks Each k = true

-- one field, or all
abbrev pub is_field : Option FieldNo → ℕ → Bool
is_field None k = true
is_field (Some f) k = eqb k f.0

-- the keys are those of the body
pub record AreKeys (P : Program) (b : ℕ) (keys : Keys) : Type 0 where
  pub facts : keys.facts ≡ fact_keys P b
  pub own : keys.own ≡ own_keys P b
