-- Which causes have sources that stand, as a list; and what tables have to be.
use Rattle.std.specs.Prelude.{ℕ, ◌<◌, ◌≡◌, Bool, true, false, cond, List, [], ◌∷◌, ◌++◌, length, Option, Some, None, slice_index_or}
use Rattle.jn_quals.specs.Qualifier.{Qualifier}
use Rattle.jn_quals.specs.Order.{no_qual}
use Rattle.jn_points.specs.declared.program.Program.{Program}
use Rattle.jn_sigs.specs.Signature.{start_signature}
use Rattle.jn_env.specs.Environment.{Env}
use Rattle.jn_env.specs.Order.{Table, env_in, qual_at}
use Rattle.jn_env.specs.Sized.{Sized}
use Rattle.jn_contrib.specs.declared.listed.Overrider.{Overrider}
use Rattle.jn_contrib.specs.Entries.{AreOverriders}
use Rattle.jn_tables_law.specs.Inferable.{IsInferable}
use Rattle.jn_reasons_law.specs.declared.item.Bit.{Bit}
use Rattle.jn_reasons_law.specs.declared.item.Item.{Item}
use Rattle.jn_reasons_law.specs.declared.item.Item.TheVariants.{AtSlot, AtRegister}
use Rattle.jn_reasons_law.specs.Items.{on}
use Rattle.jn_reasons.specs.declared.causes.Cause.{Cause}
use Rattle.jn_origins.specs.declared.bodies.KnownBody.{KnownBody}
use Rattle.jn_origins.specs.Leading.{AreKnown}
use Rattle.jn_origins.specs.Targets.{AreSenders}

-- the table of each body has environments of that body
abbrev pub AreSized : Program → List Table → Type 0
AreSized P tables = (b : ℕ) → b < length P.bodies → Sized P b (slice_index_or tables b [])

-- what is found once of a program with its tables
pub record AreParts (P : Program) (tables : List Table) (bodies : List KnownBody) (start : List Qualifier) (list : List Overrider) (lists : List (List ℕ)) : Type 0 where
  pub inferable : IsInferable P
  pub sized : AreSized P tables
  pub known : AreKnown P bodies
  pub starts : start ≡ start_signature P
  pub overriders : AreOverriders P list
  pub senders : AreSenders P lists

-- the point is reached, and the register has the bit there
abbrev pub has_bit : Option Env → ℕ → Bit → Bool
has_bit None r bit = false
has_bit (Some e) r bit = on bit (qual_at e r)

module _ (s : List Qualifier) (tables : List Table) where
  -- the source stands, or is the text
  abbrev pub is_there : Option Item → Bool
  is_there None = true
  is_there (Some (AtSlot k bit)) = on bit (slice_index_or s k no_qual)
  is_there (Some (AtRegister b p r bit)) = has_bit (env_in (slice_index_or tables b []) p) r bit

  -- the causes whose sources are there
  abbrev pub standing : List Cause → List Cause
  standing [] = []
  standing (c ∷ cs) = cond (is_there c.source) (c ∷ []) [] ++ standing cs
