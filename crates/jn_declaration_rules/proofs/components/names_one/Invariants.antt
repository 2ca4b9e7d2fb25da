use Rattle.std.proofs.Common.{◌≡◌, drop}
use Rattle.jn_declaration_rules.specs.Ranks as spec
use Rattle.jn_declaration_rules.proofs.components.names_one.Given as goal

abbrev pub invariant-loop-class : goal.invariant-loop-class
invariant-loop-class l = spec.names_one l.parent (drop l.class-index l.supers) ≡ spec.names_one l.parent l.supers
