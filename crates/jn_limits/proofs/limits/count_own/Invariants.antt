use Rattle.std.proofs.Common.{◌≡◌, ◌≤◌, ◌+◌, drop, filter, length}
use Rattle.jn_points.specs.Lookup.{method_at}
use Rattle.jn_env.specs.Keys.{is_own}
use Rattle.jn_limits.proofs.limits.count_own.Given as goal

abbrev pub invariant-loop-field : goal.invariant-loop-field
invariant-loop-field l = (l.count + length (filter (is_own l.program (method_at l.program l.method.0)) (drop l.field-index l.fields)) ≡ length (filter (is_own l.program (method_at l.program l.method.0)) l.fields)) × (l.count ≤ l.field-index)
