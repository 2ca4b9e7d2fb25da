use Rattle.jn_declaration_rules.specs.Ranks as spec
use Rattle.jn_declaration_rules.proofs.components.meet_subtypes.Given as goal

abbrev pub invariant-loop-at : goal.invariant-loop-at
invariant-loop-at l = spec.AreBelow l.program l.labels
