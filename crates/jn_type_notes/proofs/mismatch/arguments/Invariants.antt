use Rattle.std.proofs.Common.{◌≡◌, ◌++◌}
use Rattle.jn_type_notes.specs.Mismatched.{arguments_found}
use Rattle.jn_type_notes.proofs.mismatch.arguments.Given as goal

abbrev pub invariant-loop-param : goal.invariant-loop-param
invariant-loop-param l = l.found ++ arguments_found l.program l.body l.param-iterator.a.rest.now l.param-iterator.b.rest.now ≡ l.fn.found ++ arguments_found l.program l.body l.params l.arguments
