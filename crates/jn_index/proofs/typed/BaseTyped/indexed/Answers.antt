use Rattle.std.proofs.Common.{subst}
use Rattle.jn_points.specs.declared.program.Program.{Program}
use Rattle.jn_points.specs.BaseRows.{NoBaseRows}
use Rattle.jn_index.proofs.typed.BaseTyped.indexed.Goals as goal

pub returns-clause-typed : goal.returns-clause-typed
returns-clause-typed c = subst (λ (P : Program). NoBaseRows P) c.self.view_is c.self.invariant.1
