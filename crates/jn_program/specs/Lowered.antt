-- What lowering files answers.
use Rattle.std.specs.Prelude.{◌≡◌, List, []}
use Rattle.jn_base.specs.declared.infer.Infer.{Infer}
use Rattle.jn_base.specs.declared.place.Row.{Row}
use Rattle.jn_base.specs.declared.refusal.Fail.{Fail}
use Rattle.jn_base.specs.declared.refusal.Fail.TheVariants.{Refused, OutOfMemory}
use Rattle.jn_places.specs.Placed.{PlacedFile}
use Rattle.jn_points.specs.declared.program.Program.{Program}
use Rattle.jn_points.specs.Regular.{Regular}
use Rattle.jn_program_law.specs.FileProgram.{inferring, j_rows}

-- the files have no row J1 to J6, and this is their program by the choice of members that are inferred, which is regular
pub record IsProgram (infer : Infer) (files : List PlacedFile) (P : Program) : Type 0 where
  pub program : P ≡ inferring infer files
  pub rows : j_rows files ≡ []
  pub regular : Regular P

-- all rows, where there are some
abbrev pub IsRefused : List PlacedFile → List Row → Type 0
IsRefused files rows = (rows ≡ j_rows files) × (j_rows files ≡ [] → ⊥)

abbrev pub IsRefusedFor : List PlacedFile → Fail (List Row) → Type 0
IsRefusedFor files (Refused rows) = IsRefused files rows
IsRefusedFor files OutOfMemory = Unit {0}
