use Rattle.std.proofs.Common.{◌≡◌, ℕ, ◌<◌, length}
use Rattle.std.specs.Prelude.{slice_index}
use Rattle.std.specs.Mem.Slots.{slots_items}
use lib.ListN.{get_elem?}
use mathlib.Core.Option.{some}
use Rattle.jn_sigtable.proofs.words.first_words.Given as goal

abbrev pub invariant-loop-i : goal.invariant-loop-i
invariant-loop-i l = (length l.words.items ≡ l.i) × ((k : ℕ) → k < l.i → get_elem? (slots_items l.closed.words) k ≡ some (slice_index l.words.items k))
