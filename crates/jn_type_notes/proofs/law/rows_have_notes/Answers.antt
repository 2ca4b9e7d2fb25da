use Rattle.jn_type_notes.proofs.Noting.{all_noted}
use Rattle.jn_type_notes.proofs.law.rows_have_notes.Goals as goal

pub returns : goal.returns
returns c = λ names infer trees row t j base code. all_noted names infer trees row (c.choices_refuse_alike.ensures.rows infer trees row) t j base code
