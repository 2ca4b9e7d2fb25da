use Rattle.jn_front.proofs.OneFront.{front_rows, front_parsed, front_apart}
use Rattle.jn_front.proofs.law.files_have_one_front.Goals as goal

pub returns : goal.returns
returns c =
    let law = c.texts_have_one_reading.ensures in
    let trees = c.files_have_one_outcome.ensures in
    record {
      rows = front_rows law.one law.faultless law.one_fault trees.one_row trees.not_both;
      parsed = front_parsed law.one law.faultless law.one_fault c.files_have_one_placed_tree.ensures;
      apart = front_apart law.one law.faultless law.one_fault trees.one_row trees.not_both;
    }
