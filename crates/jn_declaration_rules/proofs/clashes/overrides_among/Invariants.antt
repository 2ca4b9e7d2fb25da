use Rattle.std.proofs.Common.{◌≡◌, ◌&&◌, not, drop}
use Rattle.jn_points.specs.declared.program.Method.{Method}
use Rattle.jn_points.specs.Lookup.{method_at}
use Rattle.jn_points.specs.Members as members
use Rattle.jn_member_tables.specs.Numbers.{places_of, passes}
use Rattle.jn_index.specs.Index.{owners}
use Rattle.jn_declaration_rules.specs.Rows as spec
use Rattle.jn_declaration_rules.proofs.clashes.overrides_among.Given as goal

abbrev pub invariant-loop-class : goal.invariant-loop-class
invariant-loop-class l = members.some_of (λ d. members.some_of (λ k. passes (λ (y : Method). members.is_pair l.program l.m k && not (spec.agrees l.program l.over y)) (method_at l.program k)) (places_of d 0 (owners l.program.methods))) (drop l.class-index l.classes) ≡ members.some_of (λ d. members.some_of (λ k. passes (λ (y : Method). members.is_pair l.program l.m k && not (spec.agrees l.program l.over y)) (method_at l.program k)) (places_of d 0 (owners l.program.methods))) l.classes
