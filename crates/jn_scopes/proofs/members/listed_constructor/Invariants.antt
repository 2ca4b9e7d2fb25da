use Rattle.std.proofs.Common.{◌≡◌, eqb, drop, length}
use Rattle.std.specs.Prelude.{◌&&◌}
use Rattle.jn_points.specs.Members as spec
use Rattle.jn_scopes.proofs.members.listed_constructor.Given as goal

abbrev pub invariant-loop-number : goal.invariant-loop-number
invariant-loop-number l = spec.first_at (λ m. m.ctor && eqb m.owner.0 l.class.0 && eqb (length m.params) l.arity) l.number (drop l.number l.methods) ≡ spec.constructor_of l.program l.class.0 l.arity
