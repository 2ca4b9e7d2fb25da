use Rattle.jn_splice_law.proofs.Lines.{import_before}
use Rattle.jn_splice_law.proofs.law.imports_may_stand_before_a_text.Goals as goal

pub returns : goal.returns
returns c = import_before
