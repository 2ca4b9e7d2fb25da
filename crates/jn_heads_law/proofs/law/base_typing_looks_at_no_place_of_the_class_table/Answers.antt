use Rattle.jn_heads_law.proofs.Typing.{no_rows}
use Rattle.jn_heads_law.proofs.law.base_typing_looks_at_no_place_of_the_class_table.Goals as goal

pub returns : goal.returns
returns c = λ P Q b row h same none r. no_rows P Q h b same row none r
