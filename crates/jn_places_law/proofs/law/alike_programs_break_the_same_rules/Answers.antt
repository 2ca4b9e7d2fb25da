use Rattle.jn_places_law.proofs.Alike.{points, constructors, pairs, all}
use Rattle.jn_places_law.proofs.law.alike_programs_break_the_same_rules.Goals as goal

pub returns : goal.returns
returns c = record { points = points; constructors = constructors; pairs = pairs; all = all }
