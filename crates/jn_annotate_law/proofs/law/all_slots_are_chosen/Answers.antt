use Rattle.jn_annotate_law.proofs.Choosing.{all_chosen}
use Rattle.jn_annotate_law.proofs.law.all_slots_are_chosen.Goals as goal

pub returns : goal.returns
returns c = all_chosen
