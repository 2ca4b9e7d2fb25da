use Rattle.std.proofs.Common.{◌≡◌, ◌&&◌, not, eqb, drop}
use Rattle.jn_points.specs.Members as members
use Rattle.jn_declaration_rules.specs.Rows as spec
use Rattle.jn_declaration_rules.proofs.overrides.is_hiding.Given as goal

abbrev pub invariant-loop-other : goal.invariant-loop-other
invariant-loop-other l = members.some_of (λ y. eqb l.field.name.0 y.name.0 && not (eqb l.field.owner.0 y.owner.0) && members.sub l.program l.field.owner.0 y.owner.0) (drop l.other-index l.program.fields) ≡ spec.is_hiding l.program l.field
