use Rattle.std.proofs.Common.{subst}
use Rattle.jn_tables_law.specs.Inferable.{IsInferable}
use Rattle.jn_inference_law.specs.Solution.{IsLeastSignature}
use Rattle.jn_notes.specs.Noted.{AreLeastTables}
use Rattle.jn_notes.specs.Walked.{Subject}
use Rattle.jn_notes.proofs.solved.SolvedProgram.facts.Goals as goal

pub returns-clause-inferable : goal.returns-clause-inferable
returns-clause-inferable c = subst (λ (v : Subject). IsInferable v.program) c.self.view_is c.facts.ensures

pub returns-clause-least : goal.returns-clause-least
returns-clause-least c = subst (λ (v : Subject). IsLeastSignature v.program v.sig) c.self.view_is c.self.invariant.least

pub returns-clause-solved : goal.returns-clause-solved
returns-clause-solved c = subst (λ (v : Subject). AreLeastTables v.program v.sig v.tables) c.self.view_is c.self.invariant.solved
