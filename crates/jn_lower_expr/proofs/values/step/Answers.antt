use Rattle.jn_lower_expr.proofs.Giving.{ran}
use Rattle.jn_lower_expr.proofs.values.step.Goals as goal

pub returns : goal.returns
returns c = ran c.args.kind c.args.span c.args.e.now c.put.new.e c.requires.plain c.in_ok-put.ensures.points c.in_ok-put.ensures.labels
