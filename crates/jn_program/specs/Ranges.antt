-- Bodies that stand one after the other.
use Rattle.std.specs.Prelude.{ℕ, ◌≡◌, List, Some, slice_get}
use Rattle.jn_base.specs.declared.place.Row.{Row}
use Rattle.jn_points.specs.declared.program.Body.{Body}
use Rattle.jn_points.specs.declared.program.Program.{Program}
use Rattle.jn_lowering.specs.Bodies.{Source, bodies_of, body_of_source}
use Rattle.jn_lowering.specs.BodyRows.{rows_of_bodies, rows_of_body}
use Rattle.jn_lower_stmt.specs.declared.body.Source as code
use Rattle.jn_lower_stmt.specs.Sources.{source_of}
use Rattle.jn_program.specs.declared.bodies.LoweredBody.{LoweredBody}
use Rattle.jn_program.specs.declared.bodies.LoweredFiles.{LoweredFiles}

abbrev pub body_of : LoweredBody → Body
body_of lowered = lowered.body

abbrev pub rows_in : LoweredBody → List Row
rows_in lowered = lowered.rows

-- the body of a source, and its rows
pub record IsLoweredBody (P : Program) (s : Source) (lowered : LoweredBody) : Type 0 where
  pub body : lowered.body ≡ body_of_source P s
  pub rows : lowered.rows ≡ rows_of_body P s

-- those of the source at this place
abbrev pub IsLoweredAt : Program → List code.Source → ℕ → LoweredBody → Type 0
IsLoweredAt P sources at lowered = (source : code.Source) × (slice_get sources at ≡ Some source) × IsLoweredBody P (source_of source) lowered

-- the bodies of sources, and their rows, in their order
pub record IsLowered (P : Program) (ss : List Source) (lowered : LoweredFiles) : Type 0 where
  pub bodies : lowered.bodies ≡ bodies_of P ss
  pub rows : lowered.rows ≡ rows_of_bodies P ss
