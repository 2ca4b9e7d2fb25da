-- Programs in which nothing is left to annotate.
use Rattle.std.specs.Prelude.{◌≡◌, ℕ, false, List, slice_get}
use Rattle.jn_points.specs.declared.program.SlotInfo.{SlotInfo}
use Rattle.jn_transfer.specs.Contributions.{is_inferred}

abbrev pub NoneInferred : List SlotInfo → Type 0
NoneInferred slots = (i : ℕ) → is_inferred (slice_get slots i) ≡ false
