use Rattle.jn_front.proofs.OneFront.{text_placed_once}
use Rattle.jn_front.proofs.law.texts_have_one_placed_tree.Goals as goal

pub returns : goal.returns
returns c file text old ts us ns ms one other lexed also = text_placed_once c.files_have_one_placed_tree.ensures ts us ns ms one other (c.texts_have_one_reading.ensures.one file text old ts us ns ms lexed also)
