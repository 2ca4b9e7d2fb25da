use Rattle.jn_good_law.proofs.Kept.{good_never_null, good_run}
use Rattle.jn_good_law.proofs.law.good_runs_never_fault.Goals as goal

pub returns : goal.returns
returns c =
    let law = c.steps_keep_good_states.ensures in
    record {
      good = λ W S R N. good_run W (law.start W S R N) (law.step W S R N) (law.no_fault W S);
      no_fault = λ W S R N. good_never_null W (law.start W S R N) (law.step W S R N) (law.no_fault W S);
    }
