use Rattle.std.proofs.Common.{◌≡◌, ◌++◌, drop}
use Rattle.jn_type_notes.specs.Mismatched.{all_found}
use Rattle.jn_type_notes.proofs.mismatch.all.Given as goal

abbrev pub invariant-loop-given : goal.invariant-loop-given
invariant-loop-given l = l.found ++ all_found l.program l.body l.want (drop l.given-index l.operands) ≡ l.fn.found ++ all_found l.program l.body l.want l.operands
