use Rattle.jn_phases.proofs.OneTyping.{one_program, one_refused, refused_apart}
use Rattle.jn_phases.proofs.law.files_have_one_typing.Goals as goal

pub returns : goal.returns
returns c = record {
  rows = λ infer files rows others x y. one_refused infer c.files_have_one_front.ensures.rows c.files_have_one_front.ensures.parsed c.files_have_one_front.ensures.apart c.rows_have_one_order.ensures files rows others x y;
  program = λ infer files names others P Q x y. one_program infer c.files_have_one_front.ensures.parsed files names others P Q x y;
  apart = λ infer files names P rows x y. refused_apart infer c.files_have_one_front.ensures.rows c.files_have_one_front.ensures.parsed c.files_have_one_front.ensures.apart c.rows_have_one_order.ensures files names P rows x y;
}
