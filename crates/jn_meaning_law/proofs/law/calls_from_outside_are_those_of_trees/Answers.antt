use Rattle.std.proofs.Common.{refl, ap}
use Rattle.jn_meaning.specs.Bodies.{entered as entered_body, outer_world, told}
use Rattle.jn_meaning.specs.Expressions.{entered, with_this}
use Rattle.std.specs.Prelude.{Some}
use Rattle.jn_meaning_law.proofs.law.calls_from_outside_are_those_of_trees.Goals as goal

pub returns-clause-mains : goal.returns-clause-mains
returns-clause-mains c P sources names limits m b words n = refl

pub returns-clause-selected : goal.returns-clause-selected
returns-clause-selected c P sources names limits heap statics out o m k b direct args n is =
    ap (λ q. told (entered P names limits.longest (entered_body P sources names limits.longest limits.deepest n 0) q (with_this P names limits.longest (entered_body P sources names limits.longest limits.deepest n 0) o (Some args)) (outer_world heap statics out n))) is
