use Rattle.jn_workers.proofs.ScanFacts.{both_see, weighs_joined}
use Rattle.jn_workers.proofs.solving.+spread.Goals as goal

pub returns-clause-emptied : goal.returns-clause-emptied
returns-clause-emptied g t c =
    let d = g.C.Constraints.describe in
    let a = c.join-theirs.ensures.first in
    let b = c.join-theirs.ensures.second in
    λ e. let w = c.worse.ensures e in
    both_see d (d c.args.table.now.counted.system) c.join-theirs.result.1.0.seat.me.0 c.join-theirs.result.0.0.seat.me.0 c.join_pass.new.pass.seat.me.0 c.join_pass.ensures.view (b.1.1.1 w.1) (a.1 w.0)

pub returns-clause-share : goal.returns-clause-share
returns-clause-share g t c =
    let d = g.C.Constraints.describe in
    let a = c.join-theirs.ensures.first in
    let b = c.join-theirs.ensures.second in
    weighs_joined d c.args.pass.seat.me.0 c.split-other.new.pass.seat.me.0 c.split-other.result.seat.me.0 c.join-theirs.result.1.0.seat.me.0 c.join-theirs.result.0.0.seat.me.0 c.join_pass.new.pass.seat.me.0 c.args.pass.live c.split-other.ensures.left c.split-other.ensures.right b.1.1.0 a.0.share c.join_pass.ensures.view
