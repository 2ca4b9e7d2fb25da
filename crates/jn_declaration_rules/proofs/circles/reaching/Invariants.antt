use Rattle.jn_declaration_rules.specs.Ranks as ranks_of
use Rattle.jn_declaration_rules.proofs.circles.reaching.Given as goal

abbrev pub invariant-loop-step : goal.invariant-loop-step
invariant-loop-step l = ranks_of.MarksReaching l.program l._step l.target l.marks.items
