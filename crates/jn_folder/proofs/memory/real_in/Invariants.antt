use Rattle.std.proofs.Common.{◌≡◌, drop}
use Rattle.jn_folder.specs.Listing.{real_in}
use Rattle.jn_folder.proofs.memory.real_in.Given as goal

abbrev pub invariant-loop-entry : goal.invariant-loop-entry
invariant-loop-entry l = real_in l.entries ≡ real_in (drop l.entry-index l.entries)
