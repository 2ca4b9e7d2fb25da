use Rattle.jn_places_law.proofs.Alike.{tables}
use Rattle.jn_places_law.proofs.law.alike_programs_have_the_same_tables.Goals as goal

pub returns : goal.returns
returns c = tables
