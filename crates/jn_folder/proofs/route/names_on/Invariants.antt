use Rattle.std.proofs.Common.{◌≡◌, length}
use Rattle.std.specs.List.{fold}
use Rattle.std.specs.Path.{components_remaining}
use Rattle.jn_folder.specs.Plain.{names_on, with_part}
use Rattle.jn_folder.proofs.route.names_on.Given as goal

abbrev pub invariant-loop-part : goal.invariant-loop-part
invariant-loop-part l = fold with_part l.names.items (components_remaining l.parts) ≡ names_on l.path

abbrev pub decreases-loop-part : goal.decreases-loop-part
decreases-loop-part l = length (components_remaining l.parts)
