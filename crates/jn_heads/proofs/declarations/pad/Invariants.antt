use Rattle.std.proofs.Common.{◌≡◌, ◌+◌, ◌-◌, ℕ, length}
use Rattle.std.specs.Prelude.{slice_index}
use Rattle.jn_heads.proofs.declarations.pad.Given as goal

abbrev pub invariant-loop-places : goal.invariant-loop-places
invariant-loop-places l = (n : ℕ) → slice_index l.places.items n ≡ slice_index l.fn.places.items n

abbrev pub decreases-loop-places : goal.decreases-loop-places
decreases-loop-places l = l.name + 1 - length l.places.items
