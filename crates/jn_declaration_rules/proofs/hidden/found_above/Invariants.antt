use Rattle.std.proofs.Common.{◌≡◌, drop}
use Rattle.jn_declaration_rules.specs.Hidden as spec
use Rattle.jn_declaration_rules.proofs.hidden.found_above.Given as goal

abbrev pub invariant-loop-class : goal.invariant-loop-class
invariant-loop-class l = spec.found_above l.tables l.name (drop l.class-index l.supers) ≡ spec.found_above l.tables l.name l.supers
