use Rattle.jn_declaration_rules.specs.Ranks as spec
use Rattle.jn_declaration_rules.proofs.components.meet_supers.Given as goal

abbrev pub invariant-loop-place : goal.invariant-loop-place
invariant-loop-place l = spec.AreAbove l.program l.labels
