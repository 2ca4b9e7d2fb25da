use Rattle.std.proofs.Common.{◌≡◌}
use Rattle.jn_points.specs.Members as spec
use Rattle.jn_points.proofs.pairs.some_class_pairs.Given as goal

abbrev pub invariant-loop-class : goal.invariant-loop-class
invariant-loop-class l = l.some ≡ spec.some_of (spec.class_pair l.program l.m l.over l.under) (spec.below l.class)
