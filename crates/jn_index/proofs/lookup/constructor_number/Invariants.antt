use Rattle.std.proofs.Common.{◌≡◌, drop}
use Rattle.jn_points.specs.Members as spec
use Rattle.jn_member_tables.specs.Numbers.{first_in}
use Rattle.jn_index.specs.Index as index
use Rattle.jn_index.proofs.lookup.constructor_number.Given as goal

abbrev pub invariant-loop-number : goal.invariant-loop-number
invariant-loop-number l = first_in (index.constructs_at l.program l.class.0 l.arity) (drop l.number-index l.constructors) ≡ spec.constructor_of l.program l.class.0 l.arity
