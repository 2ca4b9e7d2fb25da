-- What a program comes to where a certificate is asked for.
use Rattle.std.specs.Prelude.{ℕ, ◌≤◌, ◌<◌, ◌≡◌, List, [], length, Option, slice_index_or}
use Rattle.jn_base.specs.declared.place.Row.{Row}
use Rattle.jn_points.specs.declared.program.Program.{Program}
use Rattle.jn_quals.specs.Qualifier.{Qualifier}
use Rattle.jn_env.specs.Environment.{Env}
use Rattle.jn_transfer.specs.Least.{IsLeastTable}
use Rattle.jn_transfer.specs.Rules.{Breaks}
use Rattle.jn_inference_law.specs.Solution.{IsLeastSignature}
use Rattle.jn_system.specs.Rows.{AreBroken}
use Rattle.jn_cert_form.specs.Form.{cert_bytes}
use Rattle.jn_cert_law.specs.Certificate.{CertHolds}
use Rattle.nullcheck_cert_write.specs.declared.made.CertMade.{CertMade}
use Rattle.nullcheck_cert_write.specs.declared.made.CertMade.TheVariants.{Refused, Rejected, TooLarge, Made}

-- bytes of a certificate
abbrev pub most_bytes : ℕ
most_bytes = 67108864

-- the least table of each body
pub record AreLeastTables (P : Program) (s : List Qualifier) (tables : List (List (Option Env))) : Type 0 where
  pub many : length tables ≡ length P.bodies
  pub each : (b : ℕ) → b < length P.bodies → IsLeastTable P s b (slice_index_or tables b [])

-- under the least signature these are the rows of the rules, in order
pub record AreRuleRows (P : Program) (rows : List Row) : Type 0 where
  pub signature : List Qualifier
  pub least : IsLeastSignature P signature
  pub broken : AreBroken P signature rows

-- no rule is broken under the least signature, and the form of the least tables is larger than a certificate may be
pub record IsTooLarge (P : Program) : Type 0 where
  pub signature : List Qualifier
  pub tables : List (List (Option Env))
  pub least : IsLeastSignature P signature
  pub unbroken : Breaks P signature []
  pub solved : AreLeastTables P signature tables
  pub large : most_bytes < length (cert_bytes P signature tables)

-- no rule is broken, and the bytes are a certificate that holds
pub record IsMadeFor (P : Program) (cert : List ℕ) : Type 0 where
  pub accepted : AreRuleRows P []
  pub small : length cert ≤ most_bytes
  pub holds : CertHolds P cert

-- of a program
abbrev pub IsMadeOf : Program → CertMade → Type 0
IsMadeOf P (Refused rows) = ⊥
IsMadeOf P (Rejected rows) = AreRuleRows P rows × (rows ≡ [] → ⊥)
IsMadeOf P TooLarge = IsTooLarge P
IsMadeOf P (Made cert) = IsMadeFor P cert
