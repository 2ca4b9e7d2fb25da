use Rattle.std.proofs.Common.{◌≡◌, ℕ, ◌<◌, ◌||◌, ◌&&◌, not, false, length, drop, get_or}
use Rattle.std.specs.Prelude.{eqb}
use Rattle.jn_points.specs.Lookup.{class_of, private_of, method_at}
use Rattle.jn_points.specs.Members.{some_of}
use Rattle.jn_sigs.specs.Signature.{calls_method}
use Rattle.jn_sigs.proofs.sites.mark_calls.Given as goal

abbrev pub invariant-loop-point : goal.invariant-loop-point
invariant-loop-point l = (m : ℕ) → m < length l.flags →
    (get_or l.flags m false || ((not (private_of (method_at l.program m)) || eqb l.class (class_of (method_at l.program m))) && some_of (λ pt. calls_method m pt.kind) (drop l.point-index l.body.points)))
    ≡ (get_or l.fn.flags m false || ((not (private_of (method_at l.program m)) || eqb l.class (class_of (method_at l.program m))) && some_of (λ pt. calls_method m pt.kind) l.body.points))
