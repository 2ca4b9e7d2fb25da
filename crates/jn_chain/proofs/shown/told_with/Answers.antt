use Rattle.jn_chain.proofs.Telling.{told_more, told_no_more}
use Rattle.jn_chain.proofs.shown.told_with.Goals as goal

pub returns-then-is_told : goal.returns-then-is_told
returns-then-is_told c = told_more c.args.most c.args.step c.args.behind.now c.in_ok-told.told c.is_told.result c.is_told.ensures c.if-is_told.true c.in_ok-told.ensures.count c.in_ok-told.ensures.shown

pub returns : goal.returns
returns c = told_no_more c.args.most c.args.step c.args.behind.now c.in_ok-same.same c.is_told.result c.is_told.ensures c.if-is_told.false c.in_ok-same.ensures
