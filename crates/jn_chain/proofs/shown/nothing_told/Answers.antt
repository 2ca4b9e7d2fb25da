use Rattle.jn_chain.proofs.Telling.{told_nothing}
use Rattle.jn_chain.proofs.shown.nothing_told.Goals as goal

pub returns : goal.returns
returns c = λ most. told_nothing most c.new.result c.new.ensures
