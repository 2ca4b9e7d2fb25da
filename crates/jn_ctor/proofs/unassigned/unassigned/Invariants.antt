use Rattle.std.proofs.Common.{◌≡◌, ◌++◌, drop, filter}
use Rattle.jn_ctor.specs.Unassigned.{field_numbers, lacks_from}
use Rattle.jn_ctor.proofs.unassigned.unassigned.Given as goal

abbrev pub invariant-loop-field : goal.invariant-loop-field
invariant-loop-field l = field_numbers l.fields.items ++ filter (λ f. lacks_from l.own f l.points 0 l.slots) (drop l.field-index l.own) ≡ filter (λ f. lacks_from l.own f l.points 0 l.slots) l.own
