use Rattle.jn_heads_law.proofs.Indexes.{index_same}
use Rattle.jn_heads_law.proofs.law.indexes_serve_alike_programs.Goals as goal

pub returns : goal.returns
returns c = λ P Q x h index. index_same P Q h x index
