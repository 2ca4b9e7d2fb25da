use Rattle.jn_inference_law.proofs.BodiesAlone.{tasks_least, bodies_least}
use Rattle.jn_inference_law.proofs.law.private_inference_is_of_bodies_alone.Goals as goal

pub returns : goal.returns
returns c = record { tasks = tasks_least; bodies = bodies_least }
