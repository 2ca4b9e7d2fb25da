use Rattle.std.proofs.Common.{◌∙◌}
use Rattle.jn_reporters.proofs.Lined.{lined_after}
use Rattle.jn_reporters.proofs.by_row.ByRowReporter.take.Goals as goal

pub invariant_of-self : goal.invariant_of-self
invariant_of-self g c = lined_after g.F.RowFormat.written c.self.inside.sheet c.take.new.self c.args.row.now c.deref.result.now c.take.result c.take.ensures.ok c.take.ensures.err (c.deref.ensures.value ∙ c.in_ok-text.ensures) c.self.invariant
