use Rattle.std.proofs.Common.{◌≡◌, map}
use Rattle.jn_front.specs.Numbered.{tree_of}
use Rattle.jn_front.proofs.renumbering.trees_of.Given as goal

abbrev pub invariant-loop-one : goal.invariant-loop-one
invariant-loop-one l = l.trees.items ≡ map tree_of l.yielded
