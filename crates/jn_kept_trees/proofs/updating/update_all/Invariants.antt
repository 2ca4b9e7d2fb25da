use Rattle.std.proofs.Common.{◌≡◌, ◌≤◌, ◌<◌, ℕ, None, length}
use Rattle.std.specs.Prelude.{get_or}
use Rattle.jn_kept_trees.specs.Fresh.{updated}
use Rattle.jn_kept_trees.proofs.updating.update_all.Given as goal

abbrev pub invariant-loop-at : goal.invariant-loop-at
invariant-loop-at l = record {
  long : length l.trees.items ≡ length l.fn.trees.items;
  many : length l.fresh.items ≡ length l.fn.fresh.items;
  left : (n : ℕ) → l.at ≤ n → get_or l.trees.items n None ≡ get_or l.fn.trees.items n None;
  fresh : (n : ℕ) → l.at ≤ n → get_or l.fresh.items n None ≡ get_or l.fn.fresh.items n None;
  done : (n : ℕ) → n < l.at → get_or l.trees.items n None ≡ updated (get_or l.fn.trees.items n None) (get_or l.fn.fresh.items n None);
}
