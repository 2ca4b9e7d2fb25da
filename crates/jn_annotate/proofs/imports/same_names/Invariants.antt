use Rattle.std.proofs.Common.{◌≡◌, length}
use Rattle.jn_trees.specs.View.{identifier_names}
use Rattle.jn_annotate.specs.Imports as spec
use Rattle.jn_annotate.proofs.imports.same_names.Given as goal

abbrev pub invariant-loop-one : goal.invariant-loop-one
invariant-loop-one l = spec.same_names (identifier_names l.one) l.other ≡ spec.same_names (identifier_names l.fn.names) l.fn.wanted

abbrev pub decreases-loop-one : goal.decreases-loop-one
decreases-loop-one l = length l.one
