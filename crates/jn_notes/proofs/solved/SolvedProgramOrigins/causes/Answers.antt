use Rattle.std.proofs.Common.{subst}
use Rattle.jn_chain.specs.Search.{AreCauses}
use Rattle.jn_notes.specs.Walked.{Subject, ground_in}
use Rattle.jn_notes.proofs.solved.SolvedProgramOrigins.causes.Goals as goal

pub returns : goal.returns
returns c = subst (λ (v : Subject). AreCauses (ground_in v) c.args.source c.in_ok-causes.causes.items) c.self.view_is c.in_ok-causes.ensures
