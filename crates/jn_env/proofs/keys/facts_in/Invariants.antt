use Rattle.std.proofs.Common.{◌≡◌, ◌++◌, ◌&&◌, filter, drop}
use Rattle.std.specs.Prelude.{ltb, flat_map}
use Rattle.jn_points.specs.Lookup.{ref_field}
use Rattle.jn_env.specs.Keys.{kind_keys}
use Rattle.jn_env.proofs.keys.facts_in.Given as goal

abbrev pub invariant-loop-point : goal.invariant-loop-point
invariant-loop-point l = l.keys.items ++ filter (λ k. ltb k.reg l.locals && ref_field l.program k.field) (flat_map (λ pt. kind_keys pt.kind) (drop l.point-index l.points)) ≡ filter (λ k. ltb k.reg l.locals && ref_field l.program k.field) (flat_map (λ pt. kind_keys pt.kind) l.points)
