-- Counts of rows by their code.
use Rattle.std.specs.Prelude.{◌≡◌, ◌≤◌, ℕ, List, length, slice_index}
use Rattle.std.specs.List.{flat_map}
use Rattle.jn_base.specs.declared.code.Code.{Code}
use Rattle.jn_diag.specs.Order.{code_place}
use Rattle.jn_reporters.specs.Reports.{count_line, count_of, summary_lines}
use Rattle.jn_reporters.specs.Sheet.{Lined}
use Rattle.jn_reporters.specs.declared.shown.ShownRow.{ShownRow}

-- at the place of each code stands how many rows have it
abbrev pub Counts : List ShownRow → List ℕ → Type 0
Counts rows counts = (code : Code) → slice_index counts (code_place code) ≡ count_of rows code

-- the lines, the codes and the counts are those of the rows; there are no more rows than codes
pub record IsCounted (sheet : Lined) (codes : List Code) (counts : List ℕ) : Type 0 where
  pub lines : sheet.lines ≡ summary_lines sheet.rows
  pub counted : Counts sheet.rows counts
  pub few : length sheet.rows ≤ length codes

-- the lines of these codes
abbrev pub lines_of : List Code → List ℕ → List ℕ
lines_of codes counts = flat_map (λ code. count_line code (slice_index counts (code_place code))) codes
