-- The program of files, put together.
use Rattle.std.proofs.Common.{◌≡◌, ◌∙◌, List, ap}
use Rattle.jn_base.specs.declared.infer.Infer.{Infer}
use Rattle.jn_points.specs.declared.program.Body.{Body}
use Rattle.jn_points.specs.declared.program.Program.{Program}
use Rattle.jn_points.specs.declared.program.SlotInfo.{SlotInfo}
use Rattle.jn_places.specs.Placed.{PlacedFile}
use Rattle.jn_heads.specs.Extract.{heads}
use Rattle.jn_heads.specs.Inferred.{slots_by}
use Rattle.jn_classtable.specs.Table.{table}
use Rattle.jn_lowering.specs.Bodies.{bodies_of}
use Rattle.jn_program_law.specs.FileProgram.{inferring}
use Rattle.jn_program_law.specs.FileSources.{sources}

abbrev with : Program → List Body → Program
with P bs = record { classes = P.classes; fields = P.fields; methods = P.methods; bodies = bs; slots = P.slots }

-- the table with its bodies, and with the slots by a choice
pub program_made : (infer : Infer) (files : List PlacedFile) (slots : List SlotInfo) (T P Q : Program) (bs : List Body) → T ≡ table (heads files) → slots ≡ slots_by infer files → P ≡ record T { slots = slots } → bs ≡ bodies_of (table (heads files)) (sources files) → Q ≡ with P bs → Q ≡ inferring infer files
program_made infer files slots T P Q bs of_table chosen of_slots bodies is =
    is ∙ ap (λ R. with R bs) of_slots ∙ ap (λ R. with (record R { slots = slots }) bs) of_table
    ∙ ap (λ xs. with (record (table (heads files)) { slots = xs }) bs) chosen
    ∙ ap (with (record (table (heads files)) { slots = slots_by infer files })) bodies
