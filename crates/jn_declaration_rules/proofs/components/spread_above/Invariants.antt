use Rattle.jn_declaration_rules.specs.Ranks as spec
use Rattle.jn_declaration_rules.proofs.components.spread_above.Given as goal

abbrev pub invariant-loop-next : goal.invariant-loop-next
invariant-loop-next l = spec.AreAbove l.program l.labels
