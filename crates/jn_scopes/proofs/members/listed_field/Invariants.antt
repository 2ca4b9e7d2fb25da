use Rattle.std.proofs.Common.{◌≡◌, ◌&&◌, ◌||◌, not, eqb, drop}
use Rattle.jn_points.specs.Members as spec
use Rattle.jn_scopes.proofs.members.listed_field.Given as goal

abbrev pub invariant-loop-number : goal.invariant-loop-number
invariant-loop-number l = spec.first_at (λ f. eqb f.name.0 l.name.0 && eqb f.owner.0 l.class.0 && (not f.is_private || eqb l.class.0 l.class.0)) l.number (drop l.number l.fields) ≡ spec.declared_field l.program l.class.0 l.name.0 l.class.0
