use Rattle.std.proofs.Common.{◌≡◌, ℕ, length, map, Some}
use Rattle.std.specs.Prelude.{slice_get}
use Rattle.jn_places.specs.PlacedView.{placed_file}
use Rattle.jn_program.specs.declared.sources.Start.{Start}
use Rattle.jn_program.specs.Starts.{IsStart}
use Rattle.jn_program.proofs.Starting.{Gathers}
use Rattle.jn_program.proofs.sources.starts_of_files.Given as goal

abbrev pub invariant-loop-at : goal.invariant-loop-at
invariant-loop-at l = Gathers (map placed_file l.files) l.at l.made × (length l.starts.items ≡ l.at) × ((n : ℕ) (start : Start) → slice_get l.starts.items n ≡ Some start → IsStart (map placed_file l.files) n start)
