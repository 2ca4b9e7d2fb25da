use Rattle.std.proofs.Common.{length}
use Rattle.jn_annotate.proofs.insert.+insert_each.Given as goal

abbrev pub decreases-insert_each : goal.decreases-insert_each
decreases-insert_each l = length l.puts.now
