use Rattle.std.proofs.Common.{◌≡◌, ◌<◌, ℕ, false, length}
use Rattle.std.specs.Prelude.{get_or, slice_get}
use Rattle.jn_kept_trees.specs.Staying.{stays_as_it_was}
use Rattle.jn_kept_trees.proofs.unchanged.which_stay.Given as goal

abbrev pub invariant-loop-at : goal.invariant-loop-at
invariant-loop-at l = record {
  long : length l.same.items ≡ l.at;
  each : (n : ℕ) → n < l.at → get_or l.same.items n false ≡ stays_as_it_was (get_or l.kept n false) (slice_get l.trees n);
}
