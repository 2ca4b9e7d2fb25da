use Rattle.std.proofs.Common.{◌≡◌, drop}
use Rattle.jn_declaration_rules.specs.Rows as spec
use Rattle.jn_declaration_rules.proofs.overrides.same_bases.Given as goal

abbrev pub invariant-loop-place : goal.invariant-loop-place
invariant-loop-place l = spec.same_bases (drop l.place l.left) (drop l.place l.right) ≡ spec.same_bases l.left l.right
