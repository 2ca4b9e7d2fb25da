use Rattle.std.proofs.Common.{◌≡◌, filter}
use Rattle.jn_points.specs.Members.{below}
use Rattle.jn_env.specs.ClassFields.{is_field_of}
use Rattle.jn_env.proofs.keys.fields_of.Given as goal

abbrev pub invariant-loop-field : goal.invariant-loop-field
invariant-loop-field l = l.keys.items ≡ filter (is_field_of l.program l.class) (below l.field)
