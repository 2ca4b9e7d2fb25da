use Rattle.std.proofs.Common.{ap, ◌∙◌}
use Rattle.std.specs.Prelude.{slice_set, true}
use Rattle.jn_assigned.proofs.Filling.{set_more}
use Rattle.jn_assigned.proofs.bits.all_set.Goals as goal

pub loop-i-preserved : goal.loop-i-preserved
loop-i-preserved c = c.set.ensures ∙ ap (λ bits. slice_set bits c.loop-i.i true) c.loop-i.invariant ∙ set_more c.loop-i.i c.args.count c.loop-i-test.true
