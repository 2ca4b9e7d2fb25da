use Rattle.jn_places_law.proofs.BaseRows.{base_alike, typed_alike}
use Rattle.jn_places_law.proofs.law.alike_programs_have_the_same_base_rows.Goals as goal

pub returns : goal.returns
returns c = record { rows = base_alike; typed = typed_alike }
