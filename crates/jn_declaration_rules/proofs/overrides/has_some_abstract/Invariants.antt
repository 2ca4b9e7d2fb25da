use Rattle.std.proofs.Common.{◌≡◌, ◌&&◌, drop, length}
use Rattle.jn_points.specs.Members as members
use Rattle.jn_declaration_rules.specs.Rows as spec
use Rattle.jn_declaration_rules.proofs.overrides.has_some_abstract.Given as goal

abbrev pub invariant-loop-m : goal.invariant-loop-m
invariant-loop-m l = spec.some_at (λ m y. y.is_abstract && members.is_number (members.method_of l.program l.class.0 y.name.0 (length y.params)) m) l.m (drop l.m l.program.methods) ≡ spec.some_at (λ m y. y.is_abstract && members.is_number (members.method_of l.program l.class.0 y.name.0 (length y.params)) m) 0 l.program.methods
