use Rattle.jn_tables_law.proofs.TaskNumbers.{body_task}
use Rattle.jn_tables_law.proofs.law.tasks_of_bodies_send_under_least_tables.Goals as goal

pub returns : goal.returns
returns c = body_task
