use Rattle.std.proofs.Common.{◌≡◌, ◌&&◌, not, drop}
use Rattle.jn_points.specs.Lookup.{method_at}
use Rattle.jn_points.specs.Members as members
use Rattle.jn_member_tables.specs.Numbers.{passes}
use Rattle.jn_declaration_rules.specs.Rows as spec
use Rattle.jn_declaration_rules.proofs.clashes.hides_named.Given as goal

abbrev pub invariant-loop-k : goal.invariant-loop-k
invariant-loop-k l = members.some_of (λ k. passes (λ y. spec.over_static l.program l.over y && not (spec.hides_well l.program l.over y)) (method_at l.program k)) (drop l.k-index l.named) ≡ spec.hides_badly l.program l.over
