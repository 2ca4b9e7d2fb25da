use Rattle.std.proofs.Common.{◌≡◌, drop}
use Rattle.jn_points.specs.Members.{some_of}
use Rattle.jn_declaration_rules.specs.Listed.{is_earlier}
use Rattle.jn_declaration_rules.specs.Rows as spec
use Rattle.jn_declaration_rules.proofs.earlier.some_method.Given as goal

abbrev pub invariant-loop-k : goal.invariant-loop-k
invariant-loop-k l = some_of (is_earlier spec.same_method l.methods l.place l.method) (drop l.k-index l.listed) ≡ some_of (is_earlier spec.same_method l.methods l.place l.method) l.listed
