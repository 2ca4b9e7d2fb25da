-- Where files begin in the lists of all methods and bodies.
use Rattle.std.specs.Prelude.{ℕ, suc, ◌≡◌, List, length, Some, slice_get, take}
use Rattle.jn_places.specs.Placed.{PlacedFile}
use Rattle.jn_program_law.specs.FileSources.{body_trees, sources}
use Rattle.jn_program.specs.declared.sources.Start.{Start}

-- after the methods and the bodies of the first n files
abbrev pub IsStart : List PlacedFile → ℕ → Start → Type 0
IsStart files n start = (start.method ≡ length (body_trees (take n files))) × (start.body ≡ length (sources (take n files)))

-- one for each file, and one after the last
abbrev pub AreStarts : List PlacedFile → List Start → Type 0
AreStarts files starts = (length starts ≡ suc (length files)) × ((n : ℕ) (start : Start) → slice_get starts n ≡ Some start → IsStart files n start)
