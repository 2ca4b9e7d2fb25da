use Rattle.std.proofs.Common.{◌≡◌, ◌&&◌, not, eqb, drop}
use Rattle.std.specs.Prelude.{slice_get}
use Rattle.jn_points.specs.Members as members
use Rattle.jn_declaration_rules.specs.Listed.{there}
use Rattle.jn_declaration_rules.proofs.hiding.hides_some.Given as goal

abbrev pub invariant-loop-k : goal.invariant-loop-k
invariant-loop-k l = members.some_of (λ k. there (λ y. eqb l.field.name.0 y.name.0 && not (eqb l.field.owner.0 y.owner.0) && members.sub l.program l.field.owner.0 y.owner.0) (slice_get l.program.fields k)) (drop l.k-index l.listed) ≡ members.some_of (λ k. there (λ y. eqb l.field.name.0 y.name.0 && not (eqb l.field.owner.0 y.owner.0) && members.sub l.program l.field.owner.0 y.owner.0) (slice_get l.program.fields k)) l.listed
