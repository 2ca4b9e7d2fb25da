use Rattle.std.proofs.Common.{◌≡◌, ◌<◌, ℕ, length}
use Rattle.std.specs.Prelude.{get_or}
use Rattle.jn_base.specs.declared.number.NameNo.{NameNo}
use Rattle.jn_kept_trees.proofs.shifting.put_all.Given as goal

abbrev pub invariant-loop-at : goal.invariant-loop-at
invariant-loop-at l = (length l.shift ≡ length l.fn.shift) × ((i : ℕ) (d e f : NameNo) → i < l.at → get_or l.shift (get_or l.old i d).0 e ≡ get_or l.new i f)
