use Rattle.std.proofs.Common.{refl}
use Rattle.jn_program_law.proofs.SameRows.{rows_by, typed_by}
use Rattle.jn_program_law.proofs.law.choices_refuse_alike.Goals as goal

pub returns : goal.returns
returns c = record { heads = λ one other files. refl; rows = rows_by; typed = typed_by }
