use Rattle.std.proofs.Common.{◌≡◌, drop}
use Rattle.jn_cert_judge.specs.Judging as spec
use Rattle.jn_cert_judge.proofs.NotedMethods.{sends_of}
use Rattle.jn_cert_judge.proofs.overriding.note_methods.Given as goal

abbrev pub invariant-loop-at : goal.invariant-loop-at
invariant-loop-at l = spec.note_all l.sig l.noted (sends_of l.program l.sig (drop l.at l.list)) ≡ spec.note_all l.sig l.fn.least (sends_of l.program l.sig l.list)
