use Rattle.jn_tables_law.proofs.Climbing.{least_is_table}
use Rattle.std.proofs.Common.{[]}
use Rattle.std.specs.Prelude.{slice_index_or}
use Rattle.jn_origins.proofs.law.least_tables_are_sized.Goals as goal

pub returns : goal.returns
returns c = λ P s tables i least b lt. (least_is_table P s b (i.inside b lt) (slice_index_or tables b []) (least b lt)).sized
