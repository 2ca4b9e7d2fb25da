use Rattle.jn_quals.proofs.Words.{pack_same, pack_other, pack_small}
use Rattle.jn_quals.proofs.law.pack_joins.Goals as goal

pub returns : goal.returns
returns c = record { same = pack_same; others = pack_other; small = pack_small }
