use Rattle.std.proofs.Common.{◌≡◌, ℕ, ◌+◌, ◌<◌, ◌≤◌, take}
use Rattle.jn_trees.specs.Pieces.{kinds, opened_from, most_open}
use Rattle.jn_trees.proofs.brackets.too_deep.Given as goal

abbrev pub invariant-loop-place : goal.invariant-loop-place
invariant-loop-place l = record {
  few : l.count ≤ most_open;
  open_so_far : l.count ≡ opened_from 0 (take l.place (kinds l.tokens));
  shallow : (m : ℕ) → m < l.place → opened_from 0 (take (m + 1) (kinds l.tokens)) ≤ most_open;
}
