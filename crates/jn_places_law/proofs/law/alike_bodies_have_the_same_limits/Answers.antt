use Rattle.jn_places_law.proofs.BodyRows.{body_rows_same, large_same}
use Rattle.jn_places_law.proofs.law.alike_bodies_have_the_same_limits.Goals as goal

pub returns : goal.returns
returns c = record { large = large_same; rows = body_rows_same }
