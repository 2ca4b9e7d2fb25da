use Rattle.std.proofs.Common.{sym, subst}
use Rattle.jn_points.specs.declared.program.Program.{Program}
use Rattle.jn_points.specs.BaseRows.{NoBaseRows}
use Rattle.jn_points.specs.Regular.{Regular}
use Rattle.jn_index.proofs.typed.BaseTyped.take_index.Goals as goal

pub invariant_of-self : goal.invariant_of-self
invariant_of-self c = subst (λ (P : Program). Regular P × NoBaseRows P) (sym c.take_index.ensures.program) c.self.invariant
