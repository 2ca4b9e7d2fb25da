use Rattle.jn_declaration_rules.specs.Ranks as spec
use Rattle.jn_declaration_rules.proofs.components.label_all_above.Given as goal

abbrev pub invariant-loop-class : goal.invariant-loop-class
invariant-loop-class l = spec.AreAbove l.program l.labels
