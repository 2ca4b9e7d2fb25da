use Rattle.nullcheck_recheck_top.proofs.Stepping.{spaces_are}
use Rattle.nullcheck_recheck_top.proofs.step.spaces_of.Goals as goal

pub returns-clause-are : goal.returns-clause-are
returns-clause-are c = spaces_are c.args.count c.in_ok-vec.field-0.items (c.in_ok-vec.ensures.items_if_clones_equal (λ y is. is))
