use Rattle.std.proofs.Common.{◌≡◌, ℕ, ◌<◌, ◌||◌, false, length, drop, get_or}
use Rattle.jn_points.specs.Members.{some_of}
use Rattle.jn_sigs.specs.Signature.{is_slot}
use Rattle.jn_sigs.proofs.sites.mark_each.Given as goal

abbrev pub invariant-loop-slot : goal.invariant-loop-slot
invariant-loop-slot l = (i : ℕ) → i < length l.flags → (get_or l.flags i false || some_of (is_slot i) (drop l.slot-index l.slots)) ≡ (get_or l.fn.flags i false || some_of (is_slot i) l.slots)
