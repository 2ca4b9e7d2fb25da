use Rattle.std.proofs.Common.{◌||◌, ap, sym, ◌∙◌}
use Rattle.jn_points.specs.Members as spec
use Rattle.jn_points.proofs.Below.{some_below_more}
use Rattle.jn_points.proofs.pairs.some_class_pairs.Goals as goal

pub loop-class-preserved : goal.loop-class-preserved
loop-class-preserved c = c.either-some.ensures ∙ ap (λ b. b || c.class_pair.result) c.loop-class.invariant ∙ ap (λ b. spec.some_of (spec.class_pair c.args.program.now c.args.m c.args.over.now c.args.under.now) (spec.below c.loop-class.class) || b) c.class_pair.ensures ∙ sym (some_below_more (spec.class_pair c.args.program.now c.args.m c.args.over.now c.args.under.now) c.loop-class.class)
