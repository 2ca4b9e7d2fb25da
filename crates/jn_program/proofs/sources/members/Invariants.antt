use Rattle.std.proofs.Common.{◌≡◌, drop}
use Rattle.jn_places.specs.PlacedView.{placed_members}
use Rattle.jn_program_law.specs.FileSources.{members_trees}
use Rattle.jn_program.specs.Gathering.{gathered, numbered_of}
use Rattle.jn_program.proofs.sources.members.Given as goal

abbrev pub invariant-loop-declared : goal.invariant-loop-declared
invariant-loop-declared l = gathered (numbered_of l.made) (members_trees l.interface (placed_members l.all) (placed_members (drop l.declared-index l.all))) ≡ gathered (numbered_of l.fn.made) (members_trees l.interface (placed_members l.all) (placed_members l.all))
