use Rattle.std.proofs.Common.{◌≡◌, drop}
use Rattle.jn_folder.specs.Listing.{entries_at}
use Rattle.jn_folder.proofs.memory.found.Given as goal

abbrev pub invariant-loop-folder : goal.invariant-loop-folder
invariant-loop-folder l = entries_at l.folders l.path ≡ entries_at (drop l.folder-index l.folders) l.path
