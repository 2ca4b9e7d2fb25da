use Rattle.std.proofs.Common.{◌≡◌, ◌++◌, drop}
use Rattle.jn_declaration_rules.specs.Hidden as spec
use Rattle.jn_declaration_rules.proofs.hidden.own_entries.Given as goal

abbrev pub invariant-loop-k : goal.invariant-loop-k
invariant-loop-k l = l.entries ++ spec.owner_entries l.program l.count l.class (drop l.k-index l.fields) ≡ spec.owner_entries l.program l.count l.class l.fields
