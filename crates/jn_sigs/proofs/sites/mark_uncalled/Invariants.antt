use Rattle.std.proofs.Common.{◌≡◌, ℕ, ◌<◌, ◌||◌, false, length, drop, get_or}
use Rattle.jn_sigs.specs.Signature.{uncalled_from}
use Rattle.jn_sigs.proofs.sites.mark_uncalled.Given as goal

abbrev pub invariant-loop-i : goal.invariant-loop-i
invariant-loop-i l = (i : ℕ) → i < length l.flags →
    (get_or l.flags i false || uncalled_from l.program i l.i (drop l.i l.program.methods))
    ≡ (get_or l.fn.flags i false || uncalled_from l.program i 0 l.program.methods)
