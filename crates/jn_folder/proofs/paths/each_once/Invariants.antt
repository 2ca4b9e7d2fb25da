use Rattle.std.proofs.Common.{◌≡◌, take}
use Rattle.jn_folder.specs.Listing.{each_once}
use Rattle.jn_folder.proofs.paths.each_once.Given as goal

abbrev pub invariant-loop-name : goal.invariant-loop-name
invariant-loop-name l = l.once.items ≡ each_once (take l.name-index l.names)
