use Rattle.std.proofs.Common.{◌≡◌, ◌&&◌, not, drop}
use Rattle.jn_points.specs.Members as members
use Rattle.jn_declaration_rules.specs.Rows as spec
use Rattle.jn_declaration_rules.proofs.overrides.hides_badly.Given as goal

abbrev pub invariant-loop-under : goal.invariant-loop-under
invariant-loop-under l = members.some_of (λ y. spec.over_static l.program l.over y && not (spec.hides_well l.program l.over y)) (drop l.under-index l.program.methods) ≡ spec.hides_badly l.program l.over
