use Rattle.std.proofs.Common.{◌≡◌, ℕ, Ok, length, Some, slice_get}
use Rattle.jn_sharing.specs.Made.{AreMadeInOrder}
use Rattle.jn_sharing.proofs.sharing.in_order.Given as goal

abbrev pub invariant-loop-number : goal.invariant-loop-number
invariant-loop-number g l = record {
  laid : length l.laid.items ≡ l.count;
  each : (n : ℕ) (x : g.row.X.Denot) → slice_get l.laid.items n ≡ Some (Some x) → (w : ℕ) × goal.W-post g l.work n w (Ok x);
  values : AreMadeInOrder (λ n x. (w : ℕ) × goal.W-post g l.work n w (Ok x)) l.number l.values.items;
}
