use Rattle.std.proofs.Common.{◌≡◌, sym, subst}
use Rattle.jn_lower_expr.specs.Passing.{AllPast}
use Rattle.jn_lower_expr.proofs.Passing.{all_put, all_set}
use Rattle.jn_lower_expr.proofs.ways.raise.Goals as goal

pub returns-in-Some : goal.returns-in-Some
returns-in-Some c = λ bases taken h p. all_set bases taken c.args.ways.now.items c.in-Some.place c.args.way h p

pub returns-in-Ok : goal.returns-in-Ok
returns-in-Ok c = λ bases taken h p. rw c.in-Ok.ensures.items (all_put bases taken c.args.ways.now.items c.args.way h p)
