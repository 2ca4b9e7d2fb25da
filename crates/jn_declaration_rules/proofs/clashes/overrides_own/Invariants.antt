use Rattle.std.proofs.Common.{◌≡◌, ◌&&◌, not, drop}
use Rattle.jn_points.specs.declared.program.Method.{Method}
use Rattle.jn_points.specs.Lookup.{method_at}
use Rattle.jn_points.specs.Members as members
use Rattle.jn_member_tables.specs.Numbers.{passes}
use Rattle.jn_declaration_rules.specs.Rows as spec
use Rattle.jn_declaration_rules.proofs.clashes.overrides_own.Given as goal

abbrev pub invariant-loop-k : goal.invariant-loop-k
invariant-loop-k l = members.some_of (λ k. passes (λ (y : Method). members.is_pair l.program l.m k && not (spec.agrees l.program l.over y)) (method_at l.program k)) (drop l.k-index l.own) ≡ members.some_of (λ k. passes (λ (y : Method). members.is_pair l.program l.m k && not (spec.agrees l.program l.over y)) (method_at l.program k)) l.own
