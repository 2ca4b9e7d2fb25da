use Rattle.std.proofs.Common.{◌≡◌, ℕ, Ok, length, vec_len, Some, None, slice_get, replicate}
use Rattle.jn_sharing.specs.Made.{AreMade}
use Rattle.jn_sharing.proofs.sharing.laid_out.Given as goal

abbrev pub invariant-loop : goal.invariant-loop
invariant-loop g l = l.laid.items ≡ replicate l.counter None

abbrev pub invariant-loop-number : goal.invariant-loop-number
invariant-loop-number g l =
    AreMade (λ n x. (w : ℕ) × goal.W-post g l.fn.work n w (Ok x)) l.made.items
    × (length l.laid.items ≡ l.fn.count)
    × ((n : ℕ) (x : g.row.X.Denot) → slice_get l.laid.items n ≡ Some (Some x) → (w : ℕ) × goal.W-post g l.fn.work n w (Ok x))

abbrev pub decreases-loop-number : goal.decreases-loop-number
decreases-loop-number g l = vec_len l.made
