use Rattle.std.proofs.Common.{◌≡◌, ◌++◌, drop}
use Rattle.jn_trees.specs.View.{parameter_views}
use Rattle.jn_annotate.specs.Insertions as spec
use Rattle.jn_annotate.specs.Puts.{insertions}
use Rattle.jn_annotate.proofs.members.put_parameters.Given as goal

abbrev pub invariant-loop-parameter : goal.invariant-loop-parameter
invariant-loop-parameter l = insertions l.puts.items ++ spec.at_parameters l.program.slots l.sig l.rest (parameter_views (drop l.parameter-index l.parameters)) l.left ≡ insertions l.fn.puts.items ++ spec.at_parameters l.program.slots l.sig l.tokens (parameter_views l.parameters) l.slots
