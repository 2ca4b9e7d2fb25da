use Rattle.std.proofs.Common.{◌≡◌, ◌&&◌, not, drop}
use Rattle.jn_points.specs.Members as members
use Rattle.jn_declaration_rules.specs.Rows as spec
use Rattle.jn_declaration_rules.proofs.overrides.overrides_badly.Given as goal

abbrev pub invariant-loop-k : goal.invariant-loop-k
invariant-loop-k l = spec.some_at (λ k y. members.is_pair l.program l.m k && not (spec.agrees l.program l.over y)) l.k (drop l.k l.program.methods) ≡ spec.overrides_badly l.program l.m l.over
