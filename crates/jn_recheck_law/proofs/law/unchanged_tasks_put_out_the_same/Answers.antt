use Rattle.jn_recheck_law.proofs.SameOutputs.{count_alike, outputs_alike, words_alike}
use Rattle.jn_recheck_law.proofs.law.unchanged_tasks_put_out_the_same.Goals as goal

pub returns : goal.returns
returns c = record {
  count = λ names more P Q tasks. (words_alike names more P Q tasks, count_alike names more P Q tasks);
  outputs = λ names more P Q t tasks p q same words. outputs_alike names more P Q tasks t p q same words;
}
