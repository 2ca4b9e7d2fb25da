use Rattle.std.proofs.Common.{◌≡◌, ◌&&◌, drop, length}
use Rattle.jn_points.specs.declared.program.Method.{Method}
use Rattle.jn_points.specs.Lookup.{method_at}
use Rattle.jn_points.specs.Members as members
use Rattle.jn_member_tables.specs.Numbers.{places_of, passes}
use Rattle.jn_index.specs.Index.{owners}
use Rattle.jn_declaration_rules.proofs.lacking.some_lacking_along.Given as goal

abbrev pub invariant-loop-owner : goal.invariant-loop-owner
invariant-loop-owner l = members.some_of (λ d. members.some_of (λ k. passes (λ (y : Method). y.is_abstract && members.is_number (members.method_of l.program l.class.0 y.name.0 (length y.params)) k) (method_at l.program k)) (places_of d 0 (owners l.program.methods))) (drop l.owner-index l.walk) ≡ members.some_of (λ d. members.some_of (λ k. passes (λ (y : Method). y.is_abstract && members.is_number (members.method_of l.program l.class.0 y.name.0 (length y.params)) k) (method_at l.program k)) (places_of d 0 (owners l.program.methods))) l.walk
