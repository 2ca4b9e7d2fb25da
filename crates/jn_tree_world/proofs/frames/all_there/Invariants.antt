use Rattle.std.proofs.Common.{◌≡◌, drop}
use Rattle.jn_machine.specs.Parts.{prepended}
use Rattle.jn_meaning.specs.Operations.{all_there}
use Rattle.jn_tree_world.proofs.frames.all_there.Given as goal

abbrev pub invariant-loop-held : goal.invariant-loop-held
invariant-loop-held l = prepended l.all.items (all_there (drop l.held-index l.values)) ≡ prepended l.fn.front.items (all_there l.values)
