use Rattle.std.proofs.Common.{◌≡◌, ◌&&◌, drop, length}
use Rattle.jn_points.specs.declared.program.Method.{Method}
use Rattle.jn_points.specs.Lookup.{method_at}
use Rattle.jn_points.specs.Members as members
use Rattle.jn_member_tables.specs.Numbers.{passes}
use Rattle.jn_declaration_rules.proofs.lacking.some_lacking.Given as goal

abbrev pub invariant-loop-k : goal.invariant-loop-k
invariant-loop-k l = members.some_of (λ k. passes (λ (y : Method). y.is_abstract && members.is_number (members.method_of l.program l.class.0 y.name.0 (length y.params)) k) (method_at l.program k)) (drop l.k-index l.own) ≡ members.some_of (λ k. passes (λ (y : Method). y.is_abstract && members.is_number (members.method_of l.program l.class.0 y.name.0 (length y.params)) k) (method_at l.program k)) l.own
