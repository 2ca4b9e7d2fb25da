use Rattle.std.proofs.Common.{◌≡◌, ℕ, ◌<◌, ◌||◌, false, length, drop, get_or}
use Rattle.jn_points.specs.Lookup.{class_of, private_of, method_at}
use Rattle.jn_points.specs.Members.{some_of}
use Rattle.jn_sigs.specs.Signature.{calls_from}
use Rattle.jn_sigs.proofs.sites.mark_called.Given as goal

abbrev pub invariant-loop-body : goal.invariant-loop-body
invariant-loop-body l = (m : ℕ) → m < length l.flags →
    (get_or l.flags m false || some_of (calls_from l.program m (private_of (method_at l.program m)) (class_of (method_at l.program m))) (drop l.body-index l.program.bodies))
    ≡ (get_or l.fn.flags m false || some_of (calls_from l.program m (private_of (method_at l.program m)) (class_of (method_at l.program m))) l.program.bodies)
