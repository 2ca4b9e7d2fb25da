use Rattle.jn_reporters.proofs.Counted.{fresh}
use Rattle.jn_reporters.proofs.summary.Summary.new.Goals as goal

pub invariant_of-result : goal.invariant_of-result
invariant_of-result c = fresh c.new.result c.new-2.result.items c.new.ensures
