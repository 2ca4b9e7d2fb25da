use Rattle.jn_recheck_law.proofs.SameOutputs.{runs_carried}
use Rattle.jn_recheck_law.proofs.law.unchanged_tasks_keep_their_runs.Goals as goal

pub returns : goal.returns
returns c = λ names more P Q t tasks p q same runs are. runs_carried names more P Q tasks t p q same runs are
