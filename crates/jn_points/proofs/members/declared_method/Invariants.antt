use Rattle.std.proofs.Common.{◌≡◌, ◌&&◌, ◌||◌, not, eqb, drop}
use Rattle.jn_points.specs.Members as spec
use Rattle.jn_points.proofs.members.declared_method.Given as goal

abbrev pub invariant-loop-number : goal.invariant-loop-number
invariant-loop-number l = spec.first_at (λ m. spec.is_named m l.name.0 l.arity && eqb m.owner.0 l.d.0 && (not m.is_private || eqb l.d.0 l.c.0)) l.number (drop l.number l.methods) ≡ spec.declared_method l.program l.c.0 l.name.0 l.arity l.d.0
